-- Definitions of what is decided of a query.
pub mod Core
pub mod Decided
