-- Nothing is written, and the walk is at its start.
use Rattle.std.proofs.Common.{◌≡◌, [], refl, rules, sym, subst}
use Rattle.wave_proved.specs.Contents.{IsWaveAt, contents_of}
use Rattle.wave_due.specs.OfWaveBytes.{WaveformView}
use Rattle.wave_proved.proofs.WalkedWaves.{wave_started}
use Rattle.wave_proved.proofs.wave.Wave.new.Goals as goal

pub invariant_of-result : goal.invariant_of-result
invariant_of-result c =
    let fresh : WaveformView = record {
      design = c.args.circuit.design.now;
      order = c.args.circuit.order.now;
      stim = c.args.circuit.stim.now;
      written = [];
    } in
    let none : c.new-3.result.items ≡ [] = search rules in
    subst (λ p. IsWaveAt (contents_of p.waveform p.walk.replayed.history p.limits p.lines.items) p.walk)
    (sym c.in_ok-new.ensures.ok)
    (wave_started c.in_ok-waveform.waveform fresh c.in_ok-walk.walk c.args.replayed.now c.args.limits
    c.new-3.result.items
    c.in_ok-waveform.ensures refl c.in_ok-walk.ensures.history none c.args.circuit.fits c.requires.handed
    c.requires.limits c.in_ok-walk.ensures.walk)
