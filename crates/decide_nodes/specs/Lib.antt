-- Definitions of the nodes of cones.
pub mod Choice
pub mod Lanes
pub mod Listed
pub mod Nodes
pub mod Traced
pub mod OfWave
