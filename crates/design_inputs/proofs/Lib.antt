-- Lemmas of design_inputs.
pub mod RowLemmas
