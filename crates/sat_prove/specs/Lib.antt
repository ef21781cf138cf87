-- Definitions of proofs by their texts.
pub mod Proof
