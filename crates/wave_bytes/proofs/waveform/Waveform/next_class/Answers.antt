-- The class of the next place is the one that is kept, or is found from the bytes.
use Rattle.std.proofs.Common.{◌≡◌, subst}
use Rattle.wave_bytes.specs.View.{WaveformView, job, next_class}
use Rattle.wave_bytes.proofs.waveform.Waveform.next_class.Goals as goal

pub returns : goal.returns
returns c =
    subst (λ (v : WaveformView). c.class_behind.result ≡ next_class (job v) v.written) c.self.view_is
    c.class_behind.ensures
