-- Proofs about models and logs that are tested.
pub mod Literals
pub mod MoreClauses
pub mod StatedModels
