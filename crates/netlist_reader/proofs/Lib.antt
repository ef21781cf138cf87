-- Lemmas for the reader of netlists: numbers, keywords, tokens and steps of runs.
pub mod Numbers
pub mod Fronts
pub mod Codes
pub mod Runs
pub mod Groups
