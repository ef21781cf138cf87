-- Lemmas of recording_laws.
pub mod Applying
pub mod Coding
pub mod Declaring
pub mod Itemed
pub mod Said
pub mod Tied
pub mod Timing
pub mod Tracking
pub mod Values
mod Worked
