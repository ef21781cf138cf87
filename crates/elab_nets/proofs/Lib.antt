-- Lemmas of elab_nets.
pub mod Making
pub mod BoardLemmas
