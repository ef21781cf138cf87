-- Lemmas of elab_names.
pub mod SetLemmas
pub mod Naming
pub mod Outlining
