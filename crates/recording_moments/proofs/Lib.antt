-- Lemmas of recording_moments.
pub mod Adding
pub mod Writing
pub mod Placing
pub mod Quiet
