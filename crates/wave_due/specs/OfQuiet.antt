-- Words of law_quiet that this crate passes on.
pub use Rattle.wave_bytes.specs.OfQuiet.{CopiesAgree, CopiesShow, IsRepeated, IsRun, before_next}
unfoldable pub use Rattle.wave_bytes.specs.OfQuiet.{repeated}
