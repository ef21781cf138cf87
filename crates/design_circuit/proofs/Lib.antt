pub mod Ascending
pub mod DrivenLemmas
pub mod Exact
pub mod Follows
pub mod Gates
pub mod Handed
mod HistoryLemmas
pub mod LevelRule
pub mod Numbers
pub mod OrderLemmas
pub mod OrdersFit
pub mod Pins
pub mod PlaceNumbers
pub mod Prefix
pub mod Reaching
pub mod Replays
mod RowLemmas
pub mod Rules
mod ShownLemmas
pub mod TwoBack
pub mod Worlds
