-- Lemmas of design_cell.
pub mod Booleans
pub mod Cases
pub mod Clashes
pub mod Clocks
pub mod Conflicts
pub mod Firsts
pub mod Holds
pub mod Looks
pub mod Masks
pub mod Nexts
pub mod Picks
pub mod Rows
pub mod Unordered
pub mod WorkedHolds
pub mod Pairs
pub mod Probes
pub mod Lookups
