-- When a job fits.
pub mod Replayed
