-- Places that keep, one after another.
pub use Rattle.wave_due.specs.OfWaveBytes.{AllKeepFrom, keeps_there}
