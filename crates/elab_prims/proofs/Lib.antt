-- Lemmas of elab_prims.
pub mod NameLemmas
pub mod DefinitionLemmas
pub mod PortLemmas
pub mod FaultLemmas
pub mod BuiltLemmas
pub mod PinLemmas
