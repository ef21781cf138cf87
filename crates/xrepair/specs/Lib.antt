-- Definitions of the program over real files.
pub mod Reads
