-- Words of law_quiet that this crate passes on.
pub use Rattle.law_quiet.specs.Ahead.{by_change, cell_tells, is_calm, register_tells, taken_on, tells_calm_of}
pub use Rattle.law_quiet.specs.Copies.{CopiesAgree, CopiesShow}
pub use Rattle.law_quiet.specs.Due.{driver_of, is_first_round, is_recorded_same}
pub use Rattle.law_quiet.specs.Runs.{IsRepeated, IsRun, and_next, before_next}
unfoldable pub use Rattle.law_quiet.specs.Runs.{repeated}
pub use Rattle.law_quiet.specs.Sweep.{IsGoneOver, IsRecordedOn, KeepsOn, spot_at}
