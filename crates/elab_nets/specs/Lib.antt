-- Definitions of elab_nets.
pub mod Outcome
pub mod Ranges
pub mod State
pub mod Board
pub mod Fault
