-- The law, for all waves.
use Rattle.recording_shown.proofs.Showing.{shows_wave}
use Rattle.recording_shown.proofs.laws.history_shows_wave.Goals as goal

pub returns : goal.returns
returns c = λ wave. shows_wave wave
