-- Lemmas of the program.
pub mod Laws
