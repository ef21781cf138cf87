-- Lemmas on what is printed.
mod ItemPlaces
mod Appended
mod ToldPlaces
mod NeededPlaces
pub mod LawsOfCond
