-- Definitions of elab_prims.
pub mod Definitions
pub mod Names
pub mod Ports
pub mod Built
pub mod Pins
