-- Definitions of elab_tree.
pub mod Library
pub mod Elaborate
pub mod Text
pub mod Relation
pub mod Sound
pub mod Staying
pub mod Laws
pub mod Worked
