-- Definitions of recording_changes: what a code holds in a moment, and how changes are stored.
pub mod Held
pub mod Last
pub mod Stored
pub mod Texts
