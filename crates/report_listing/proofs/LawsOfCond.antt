-- Laws of cert_condition that this crate passes on.
pub use Rattle.cert_condition.proofs.NextTurns.{condition_holds}
