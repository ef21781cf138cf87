-- Lemmas of base_ledger.
pub mod Rows
pub mod Steps
pub mod Kept
pub mod Lookups
