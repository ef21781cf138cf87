-- Definitions of tables over sources.
pub mod Evaluated
pub mod Kept
pub mod Other
pub mod Tables
