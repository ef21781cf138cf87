-- Words of wave_class that this crate passes on.
pub use Rattle.law_quiet.specs.OfClass.{AgreeBefore}
