-- Definitions of guesses.
pub mod Codes
pub mod Guess
pub mod Renamed
