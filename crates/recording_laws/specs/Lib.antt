-- Definitions of recording_laws: what a recording's text says of times and values.
pub mod Body
pub mod Codes
pub mod Laws
pub mod Moments
