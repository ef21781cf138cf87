-- Words of wave_bytes that this crate passes on.
pub use Rattle.wave_bytes.specs.Anew.{anew_number, anew_written, nth_anew}
pub use Rattle.wave_bytes.specs.Changed.{AllKeepFrom, AreAnewAt, AreSameFrom, IsWholeLater, IsWrittenAt, RowOf}
pub use Rattle.wave_bytes.specs.Changed.{anew_behind, anew_next, anew_position}
pub use Rattle.wave_bytes.specs.Kept.{ValuesAgree}
pub use Rattle.wave_bytes.specs.View.{HasMore, WaveformView, and_one, and_repeated, job, keeps_there, next_class}
