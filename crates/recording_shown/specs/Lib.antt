-- Definitions of recording_shown: the history of what a finished wave shows.
pub mod History
