-- Definitions of sat_search: what its trail stands for, and when a learnt clause is fresh.
pub mod Reach
pub mod Learn
pub mod Decide
pub mod Outcome
