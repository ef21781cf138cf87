-- Definitions of what is printed of a wave.
pub mod Places
pub mod Blame
pub mod Fixed
pub mod Audit
pub mod Conditions
pub mod OfCond
