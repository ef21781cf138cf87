-- Laws of wave_class that this crate passes on.
pub use Rattle.wave_class.proofs.StepBefore.{before_first, before_later, first_step, keeps_at}
