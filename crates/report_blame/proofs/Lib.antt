-- Lemmas on what is to blame.
mod Joins
mod ListedNumbers
mod ShownBits
mod ToldBits
mod Tables
mod Tallies
mod Turns
mod RootCauses
