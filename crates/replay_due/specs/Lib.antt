-- Definitions of replay_due: sets of positions, and tables of readers.
pub mod Due
pub mod Readers
