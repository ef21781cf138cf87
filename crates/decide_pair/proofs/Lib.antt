-- Lemmas on fillings that are tried.
pub mod LeastLanes
pub mod NextPairs
pub mod BlockLanes
pub mod FoundNumbers
pub mod TriedNumbers
