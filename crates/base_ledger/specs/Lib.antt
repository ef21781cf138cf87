-- Definitions of base_ledger: changes, the rows that they give, and the tables of an index.
pub mod Change
pub mod Index
pub mod Ledger
