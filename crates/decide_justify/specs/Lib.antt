-- Definitions of what is promised of a search.
pub mod Search
pub mod Step
pub mod Tables
