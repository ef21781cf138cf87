-- Proofs about turns that are stated, and about conditions.
pub mod ConditionLists
pub mod MissedTurns
pub mod SameQueries
pub mod SettledLines
pub mod StatedTurns
pub use Rattle.cert_condition.proofs.StayingConditions
pub use Rattle.cert_condition.proofs.TurnChoices
pub use Rattle.cert_condition.proofs.TurnsBefore
pub mod LawsOfCone
