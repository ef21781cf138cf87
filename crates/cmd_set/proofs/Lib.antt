-- Lemmas on a set of commands.
pub mod Tables
pub mod Lawful
pub mod Lines
pub mod Taken
pub mod Runs
