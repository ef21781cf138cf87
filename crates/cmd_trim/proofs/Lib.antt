-- Lemmas of cmd_trim.
pub mod Lines
pub mod Cutting
pub mod Stubbing
pub mod Runs
