-- Lemmas on cones as they are traced.
mod BoundaryPlaces
mod ConeNodes
pub mod GrownCones
pub mod KnownBodies
mod NearPlaces
mod NextLine
mod TracedBodies
mod TracedPlaces
