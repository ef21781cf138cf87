-- Definitions of netlist_trim: the tokens of a text with their bytes, what it defines, what a top needs of that, and
-- what is kept.
pub mod Shown
pub mod Definition
pub mod Reads
pub mod Needed
pub mod Library
pub mod Reached
pub mod Trims
pub mod Copies
