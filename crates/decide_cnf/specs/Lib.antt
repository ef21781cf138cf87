-- Definitions of queries over nodes.
pub mod Answers
pub mod Clauses
pub mod Growth
pub mod Literals
pub mod Merged
pub mod Models
pub mod Query
pub mod Same
