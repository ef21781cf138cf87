-- Lemmas of recording_shown: the places of the history that shows a wave, rows of the wave, and what keeps its letters.
pub mod Keeping
pub mod Showing
pub mod Standing
