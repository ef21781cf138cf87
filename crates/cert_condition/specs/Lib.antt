-- Definitions of conditions and their turns, and of the boundaries and tracers of cones, which their clauses cite.
pub mod Exchange
pub mod First
pub mod Condition
pub mod TurnQuery
pub mod TurnNodes
pub mod Turns
pub mod View
pub mod Laws
pub mod WorkedConditions
pub use Rattle.decide_cone.specs.Boundary
pub use Rattle.decide_cone.specs.Known
pub mod OfCone
