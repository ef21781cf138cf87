-- Definitions of recording_binding: which variables of a recording name which nets, what keeps them from being bound,
-- and the stimulus.
pub mod Binding
pub mod Bits
pub mod BoundBits
pub mod Bounds
pub mod Holding
pub mod JobDesign
pub mod Keys
pub mod Naming
pub mod Originals
pub mod Refusal
pub mod Scopes
pub mod StimOf
pub mod Telling
pub mod Words
pub mod Laws
