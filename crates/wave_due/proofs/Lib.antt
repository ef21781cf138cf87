-- Lemmas on walks over a waveform by what is due.
mod Fronts
mod Visits
mod Begins
mod Skips
mod Histories
mod ListedSources
mod Marks
pub mod LawsOfQuiet
