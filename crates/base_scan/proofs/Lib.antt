-- Lemmas of texts that are read.
pub mod Digits
pub mod FirstNumbers
pub mod Fronts
pub mod Growing
