-- Lemmas of replay_forces: lists that grow, what changes force, what the replay under the forces of values shows, and how both
-- are made.
pub mod Forced
pub mod Making
mod MovedPlaces
pub mod Moving
pub mod Ordered
pub mod Resting
pub mod Rows
pub mod Sameness
pub mod Showing
pub mod Stating
pub mod TextLaws
mod Worked
