-- Lemmas of replay_history.
pub mod Bindings
pub mod Compares
pub mod Faults
mod Followers
pub mod Forces
pub mod Marking
pub mod Places
pub mod Quiet
pub mod Repeats
pub mod Replays
pub mod Seeing
pub mod Sweeps
pub mod Watching
pub mod Writing
