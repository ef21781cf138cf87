-- Lemmas of replay_due.
pub mod Words
pub mod Placing
