-- Lemmas of proofs by their texts.
pub mod OneProof
