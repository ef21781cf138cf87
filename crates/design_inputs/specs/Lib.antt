-- Definitions of design_inputs: rows of values, how they change, and how they are kept.
pub mod Rows
pub mod Codes
