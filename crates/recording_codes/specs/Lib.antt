-- Definitions of recording_codes: codes in the order of their declaration, and how they are stored.
pub mod Code
pub mod Columns
pub mod Slots
