-- Each number is that of a place that is written, and that the history has.
use Rattle.std.proofs.Common.{◌<◌, ◌∙◌, length, sym, ap, arith, subst}
use Rattle.design_circuit.specs.Fits.{place_at}
use Rattle.design_circuit.specs.History.{HasPlace, HistoryView, held_in}
use Rattle.design_circuit.specs.Job.{Job}
use Rattle.design_circuit.specs.declared.place.Place.{Place}
use Rattle.design_circuit.specs.declared.waveform.Written.{Written}
use Rattle.report_bits.specs.Counts.{total}
use Rattle.report_bits.proofs.Counting.{counted, total_below}
use Rattle.report_bits.proofs.Reach.{there_at}
use Rattle.report_bits.proofs.counts.count_rest.Goals as goal

pub shown-shown-requires : goal.shown-shown-requires
shown-shown-requires c =
    let wave = c.args.wave.now in
    let long = c.count-count.ensures.count in
    let test = c.numbers-test.true in
    let less : c.numbers.number < length wave.written = omega (arith, long, test) in
    let place = c.place_of.ensures ∙ ap (λ (j : Job). place_at j c.numbers.number) c.circuit-circuit.ensures.job in
    subst (λ (h : HistoryView). HasPlace h c.place_of.result) (sym c.replayed.ensures)
    (subst (λ (p : Place). HasPlace wave.history p) (sym place)
    (there_at wave c.circuit-circuit.ensures.wave c.numbers.number less).history)

pub add-requires : goal.add-requires
add-requires c =
    let wave = c.args.wave.now in
    let long = c.count-count.ensures.count in
    let test = c.numbers-test.true in
    let within = c.circuit-circuit.ensures.wave.holds.sound.within in
    let few = c.circuit-circuit.ensures.wave.few in
    let total = ap total c.numbers.invariant ∙ total_below wave c.numbers.number in
    omega (arith, long, test, within, few, total)

pub numbers-preserved : goal.numbers-preserved
numbers-preserved c =
    let wave = c.args.wave.now in
    let place = c.place_of.ensures ∙ ap (λ (j : Job). place_at j c.numbers.number) c.circuit-circuit.ensures.job in
    counted wave c.numbers.number c.place_of.result _ _ _ _ place c.numbers.invariant
    (ap (λ (w : Written). w.mark) c.written.ensures)
    (c.shown-shown.ensures ∙ ap (λ (h : HistoryView). (held_in h c.place_of.result).shown) c.replayed.ensures)
    c.add.ensures
