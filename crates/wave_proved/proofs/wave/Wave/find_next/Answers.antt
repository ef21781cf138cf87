-- The wave is the same.
use Rattle.std.proofs.Common.{sym, subst}
use Rattle.wave_proved.specs.Contents.{IsWaveAt, contents_of}
use Rattle.wave_due.specs.OfWaveBytes.{WaveformView}
use Rattle.wave_proved.proofs.wave.Wave.find_next.Goals as goal

pub invariant_of-self : goal.invariant_of-self
invariant_of-self c =
    subst (λ (w : WaveformView). IsWaveAt (contents_of w c.deref_mut.result.now.walk.replayed.history
    c.deref_mut.result.now.limits c.deref_mut.result.now.lines.items) c.deref_mut.result.now.walk)
    (sym c.find_next.ensures)
    (subst (λ p. IsWaveAt (contents_of p.waveform p.walk.replayed.history p.limits p.lines.items) p.walk)
    (sym c.deref_mut.ensures.value) c.self.invariant)
