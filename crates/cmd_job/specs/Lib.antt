-- Definitions of netlists, recordings and their comparison, phase by phase.
pub mod Compared
pub mod Lines
pub mod Names
pub mod Netlist
pub mod Recorded
pub mod Refusals
