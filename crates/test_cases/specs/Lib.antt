-- Definitions of test_cases.
pub mod Compared
pub mod Left
pub mod Lines
