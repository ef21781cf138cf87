-- Definitions of the bytes of waveforms, and of places that are written again.
pub mod Byte
pub mod Anew
pub mod Track
pub mod Rows
pub mod Roots
pub mod Front
pub mod View
pub mod Changed
pub mod Kept
pub mod Repeat
pub mod OfClass
pub mod OfQuiet
