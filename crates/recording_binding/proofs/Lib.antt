-- Lemmas of recording_binding.
pub mod NameLemmas
pub mod BitLemmas
pub mod BoundBitLemmas
pub mod HoldLemmas
pub mod KeyLemmas
pub mod SolidLemmas
pub mod ScopeLemmas
pub mod TellLemmas
pub mod StimLemmas
pub mod HolderLemmas
pub mod Written
pub mod Parts
pub mod Stimuli
pub mod Copying
pub mod CopiedHolders
pub mod JobDesigns
