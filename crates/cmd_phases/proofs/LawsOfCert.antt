-- Laws of cert_check that this crate passes on.
pub use Rattle.cert_check.proofs.Faultless.{begun_same}
pub use Rattle.cert_check.proofs.Fitted.{checked_accepted, own_accepted}
pub use Rattle.cert_check.proofs.OwnEntries.{own_lines}
pub use Rattle.cert_check.proofs.OwnText.{own_text_stands}
pub use Rattle.cert_check.proofs.StatedTurns.{kept_within, stated_turns, states_turns}
