-- Definitions of design_wiring.
pub mod Flat
pub mod Wired
