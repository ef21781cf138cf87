-- Definitions of replay_fans: which drivers read which nets, and what becomes due.
pub mod Nets
pub mod Readings
pub mod Marks
