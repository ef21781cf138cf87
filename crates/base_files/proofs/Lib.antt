-- Lemmas of base_files.
pub mod Fetching
mod Gives
pub mod Noting
pub mod Others
mod ReadStep
pub mod Shipped
