-- Lemmas of sat_search.
pub mod Reaching
pub mod Learning
pub mod Deciding
pub mod Logging
