-- Laws of law_quiet that this crate passes on.
pub use Rattle.law_quiet.proofs.CopiedPlaces.{copies_law, handed_law}
pub use Rattle.law_quiet.proofs.QuietRuns.{run_law}
pub use Rattle.law_quiet.proofs.QuietTests.{quiet_later}
pub use Rattle.law_quiet.proofs.SoundQuiet.{agrees_before, sound_agrees}
pub use Rattle.law_quiet.proofs.Sweeps.{before_on, begins_law, net_is, none_due_law, repeated_long, skip_law}
pub use Rattle.law_quiet.proofs.Sweeps.{start_law, step_on, visit_law}
pub use Rattle.law_quiet.proofs.ToldCalm.{told_law}
