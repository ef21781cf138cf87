-- Lemmas on searches.
pub mod StepLemmas
