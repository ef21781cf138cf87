-- Definitions of a machine that reads certificates' texts.
pub mod Numbers
pub mod Machine
pub mod Reading
pub mod Refusal
