-- Lemmas of replay_fans.
pub mod Positions
pub mod Moments
pub mod Marking
pub mod ReadingLemmas
