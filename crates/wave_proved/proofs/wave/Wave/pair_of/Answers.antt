-- The stated fillings of an unknown place give both bits.
use Rattle.std.proofs.Common.{◌≡◌, ◌∙◌, sym, ap}
use Rattle.design_circuit.specs.declared.waveform.Written.{Written}
use Rattle.design_circuit.specs.Job.{Job, number_of}
use Rattle.design_circuit.specs.Waveform.{written_at}
use Rattle.wave_proved.specs.Contents.{job}
use Rattle.wave_proved.specs.Pairs.{AreStated, IsUnknown, stated_in}
use Rattle.wave_proved.proofs.Ways.{stated_give_both}
use Rattle.wave_proved.proofs.wave.Wave.pair_of.Goals as goal

pub returns-in_ok-stated-in-Unknown-clause-both : goal.returns-in_ok-stated-in-Unknown-clause-both
returns-in_ok-stated-in-Unknown-clause-both c =
    let wave = c.args.self.now in
    let number_is : c.number_of-number.result ≡ number_of (job wave) c.args.place =
    c.number_of-number.ensures.number ∙ ap (λ (j : Job). number_of j c.args.place) c.circuit.ensures.job in
    let unknown : IsUnknown wave c.args.place =
    ap (λ (w : Written). w.mark) (sym (c.written.ensures ∙ ap (written_at wave.written) number_is)) ∙ c.in-Unknown.is in
    let are : AreStated wave c.args.place c.in_ok-stated-in-Unknown.field-0 =
    c.in_ok-stated-in-Unknown.ensures ∙ ap (stated_in wave) number_is in
    stated_give_both wave c.args.place c.in_ok-stated-in-Unknown.field-0 c.circuit.ensures.wave c.requires unknown are
