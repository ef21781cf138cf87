-- Words of cert_check that this crate passes on.
pub use Rattle.cert_check.specs.Checked.{IsAccepted}
pub use Rattle.cert_check.specs.Conditions.{AreConditionsOf, gives_bit, settled_places}
pub use Rattle.cert_check.specs.Entries.{AreConditionsFor, entries_of, lines_in}
pub use Rattle.cert_check.specs.Step.{cert_in, cert_of}
pub use Rattle.cert_check.specs.TurnLines.{AreAllTurnLines, turn_lines, turns_in}
