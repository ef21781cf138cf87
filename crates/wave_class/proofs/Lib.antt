-- Lemmas on the classes of places.
mod EarlierPlaces
mod EndClasses
mod FewNets
pub mod MixedClasses
pub mod MovedRules
mod PassingTests
pub mod QuickClasses
mod RisingPlaces
pub mod SteadyClasses
pub mod StepBefore
mod Reached
pub mod WiredPlaces
mod WiredSteady
mod WiredRegisters
mod SettledWires
