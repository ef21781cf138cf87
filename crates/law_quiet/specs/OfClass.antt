-- Words of wave_class that this crate passes on.
pub use Rattle.wave_class.specs.Facts.{AgreeBefore, AllKeep, AreFacts, AreTold, Facts, facts, facts_by, facts_of}
pub use Rattle.wave_class.specs.Facts.{is_plain, keeps_by}
pub use Rattle.wave_class.specs.Test.{numbered_value}
pub use Rattle.wave_class.specs.Wires.{AreWiresOf, CopiesFrom}
