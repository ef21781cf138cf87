-- Lemmas of the program over real files.
pub mod Adding
mod Exported
mod Fetching
pub mod Listing
