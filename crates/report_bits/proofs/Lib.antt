-- Lemmas of the report.
mod Anew
mod AnewBits
mod BitLines
mod BitNets
mod Changing
mod Counting
mod Ending
pub mod FinishedBits
mod Reach
mod SameLines
pub mod Steps
