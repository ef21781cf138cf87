-- Lemmas of recording_changes: texts cut from bytes, entries stored, the digits that are held.
pub mod Counts
pub mod Cuts
pub mod Holds
pub mod LastLemmas
pub mod Stores
