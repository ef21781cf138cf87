-- Laws of law_quiet that this crate passes on.
pub use Rattle.wave_bytes.proofs.LawsOfQuiet.{copies_law, handed_law, repeated_long, run_law}
pub use Rattle.wave_bytes.proofs.LawsOfQuiet.{sound_agrees}
