-- Definitions of what places rest on, of places that are reached, and of graphs.
pub mod Noted
pub mod Reached
pub mod InWave
pub mod Table
pub mod Traced
pub mod Bits
pub mod Graph
pub mod Kept
pub mod Picked
pub mod NodeRoots
pub mod Walk
