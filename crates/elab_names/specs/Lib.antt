-- Definitions of elab_names.
pub mod Sets
pub mod NameMap
pub mod Scope
pub mod Here
pub mod Names
pub mod Outline
