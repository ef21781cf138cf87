-- Definitions of turns that are stated and of the conditions of a wave, and those of one condition that their clauses
-- cite.
pub mod TurnLines
pub mod Conditions
pub mod Laws
pub use Rattle.cert_condition.specs.TurnQuery
pub use Rattle.cert_condition.specs.Turns
pub use Rattle.cert_condition.specs.View
pub mod OfCone
