-- Definitions of the laws of sources, and of laws that compare waveforms.
pub mod Sources
pub mod Prefix
pub mod Objection
pub mod Reshown
pub mod Alike
pub mod Audit
pub mod Starts
pub mod Roots
pub mod WorkedLaws
