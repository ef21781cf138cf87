-- Definitions of replay_history: faults of a recording, and what the replay keeps as it goes.
pub mod Fault
pub mod Filled
pub mod Follower
pub mod Forced
pub mod Going
pub mod Marks
pub mod Read
pub mod Seen
pub mod Sides
pub mod Step
pub mod Still
pub mod Sweep
pub mod Watched
