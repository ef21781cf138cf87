-- Definitions of elab_gates.
pub mod Terminals
pub mod Gates
pub mod Assigns
pub mod Primitives
