-- Definitions of sat_proof: what follows by unit propagation, logs, assignments, and what the checker's parts do.
pub mod Assignment
pub mod Closed
pub mod Code
pub mod Follows
pub mod Fresh
pub mod Guard
pub mod Index
pub mod Laws
pub mod Lines
pub mod Log
pub mod Premises
pub mod Status
pub mod Propagation
pub mod Propagator
pub mod Trail
pub mod Watch
