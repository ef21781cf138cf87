-- Lemmas on runs.
mod Joins
mod Files
mod Deliveries
pub mod Apart
pub mod Exact
mod Steps
pub mod Then
mod Runs
pub mod Causes
mod Leaves
mod Faultless
pub mod Comes
pub mod Reading
