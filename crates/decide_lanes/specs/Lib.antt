-- Definitions of lanes.
pub mod Equal
pub mod Graphs
pub mod Lanes
pub mod Pairs
pub mod Roots
pub mod Shared
pub mod Shown
