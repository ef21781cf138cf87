-- Lemmas of elab_bits.
pub mod Running
