-- Definitions of what is to blame for unknown bits.
pub mod Blamed
pub mod Causes
pub mod Halves
pub mod Joined
pub mod Roots
pub mod Table
pub mod Tally
pub mod ToBlame
