-- Lemmas of base_shelf.
mod Fronts
mod Turns
mod Failed
mod WriteSteps
mod ReadSteps
pub mod Lookups
