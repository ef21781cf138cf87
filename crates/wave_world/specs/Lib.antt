-- Definitions of whole worlds.
pub mod View
pub mod Left
