-- Definitions of fillings that are tried.
pub mod Pairs
pub mod Blocks
pub mod Decision
pub mod Found
