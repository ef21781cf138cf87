-- Definitions of the report of a repair.
pub mod Bits
pub mod BoundPlaces
pub mod Counts
pub mod Ends
pub mod Finished
pub mod Head
pub mod Lines
pub mod Marked
pub mod Names
pub mod Report
pub mod Told
