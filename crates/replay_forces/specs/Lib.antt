-- Definitions of replay_forces: events that change something, and the forces under which the replay shows given values.
pub mod Changes
pub mod ForcesOf
pub mod Laws
pub mod Made
pub mod Step
pub mod Still
pub mod Waves
