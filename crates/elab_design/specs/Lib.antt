-- Definitions of elab_design.
pub mod Quiet
pub mod Busy
pub mod Held
