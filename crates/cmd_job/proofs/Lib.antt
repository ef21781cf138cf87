-- Proofs of the answers to texts and of the laws that a text comes to one outcome.
pub mod Appends
pub mod Comparing
pub mod OneLoop
pub mod OneNetlist
pub mod OneRecording
pub mod OneText
pub mod JobNetlists
