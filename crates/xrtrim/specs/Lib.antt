-- Definitions of the program.
pub mod Reads
