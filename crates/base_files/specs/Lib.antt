-- Definitions of base_files.
pub mod Target
pub mod Stage
pub mod Put
pub mod GivenUp
pub mod Sink
pub mod Fetched
pub mod Seen
pub mod Shipped
pub mod Progress
