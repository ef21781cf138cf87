-- Definitions of what registers are set to, and of what that makes known.
pub mod Fault
pub mod Gained
pub mod Registers
pub mod Started
