-- Definitions of choices by numbers.
pub mod Choices
pub mod Halves
