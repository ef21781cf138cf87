-- Lemmas on the bytes of waveforms.
mod ByteDigits
mod Fronts
mod KeptBytes
mod NextSaid
mod RepeatedBytes
mod Tracks
mod RowPlaces
mod CopyPlaces
mod RowLaws
mod NotedPlaces
mod ChangedPlaces
mod AnewPlaces
mod CopiedBytes
mod GrownRoots
pub mod LawsOfQuiet
