-- Definitions of recording_moments: which variables change in a moment, and the tables of them.
pub mod Changed
pub mod Tables
