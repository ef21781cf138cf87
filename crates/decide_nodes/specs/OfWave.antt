-- Words of wave_proved that this crate passes on.
pub use Rattle.wave_proved.specs.Contents.{Contents, IsWave, class_in, job, next_number, shown_in}
pub use Rattle.wave_proved.specs.Token.{HoldsNext, LineHolds, PairHolds}
