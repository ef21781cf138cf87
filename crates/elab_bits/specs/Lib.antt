-- Definitions of elab_bits.
pub mod Lanes
pub mod Runs
pub mod Bits
pub mod Drive
