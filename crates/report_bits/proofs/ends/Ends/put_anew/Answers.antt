-- One place more is put.
use Rattle.std.proofs.Common.{◌≡◌, ◌-◌, ◌*◌, ◌<◌, ◌∙◌, ℕ, List, length, ap, arith, subst, sym}
use Rattle.design_circuit.specs.Job.{Job}
use Rattle.report_bits.specs.Ends.{AreBrought}
use Rattle.report_bits.specs.declared.ends.End.{End}
use Rattle.report_bits.proofs.Anew.{AreWrittenTo, anew_all, anew_put}
use Rattle.report_bits.proofs.Ending.{brought_on, brought_put}
use Rattle.wave_proved.specs.Contents.{job}
use Rattle.wave_proved.specs.Row.{anew_position}
use Rattle.report_bits.proofs.ends.Ends.put_anew.Goals as goal

pub places-preserved : goal.places-preserved
places-preserved c =
    let wave = c.args.wave.now in
    let step = c.args.step in
    let places = c.anew_at-places.result.now in
    let are = c.anew_at-places.ensures in
    let n = c.places.anew-index in
    let less = c.places-test.true in
    let ends = c.places.self.ends.items in
    let width = c.width_of.ensures ∙ ap (λ (j : Job). j.width) c.circuit.ensures.job in
    let first = ap (λ w. step * w) width in
    let number = c.number.ensures in
    let at : c.number.result - step * c.width_of.result ≡ anew_position (job wave) step places n =
    omega (arith, first, number) in
    let long = c.places.invariant.brought.long ∙ c.requires.long in
    let low = are.inside n less in
    let within : c.number.result - step * c.width_of.result < length ends = omega (arith, at, low, long) in
    record {
      brought = brought_on wave step c.args.self.now.ends.items ends c.put_end.new.self.ends.items
          c.places.invariant.brought
          (subst (λ (l : List End). AreBrought wave step ends l) (sym c.put_end.ensures)
          (brought_put wave step ends (c.number.result - step * c.width_of.result) within));
      written = anew_put wave step places are ends c.put_end.new.self.ends.items n
          (c.number.result - step * c.width_of.result) less at long c.put_end.ensures c.places.invariant.written;
    }

pub returns-clause-written : goal.returns-clause-written
returns-clause-written c =
    let places = c.anew_at-places.result.now in
    let test = c.places-test.false in
    let end = c.places.auto.anew-index-end in
    let all : c.places.anew-index ≡ length places = omega (arith, test, end) in
    anew_all c.args.wave.now c.args.step places c.anew_at-places.ensures c.places.self.ends.items
    (subst (λ (n : ℕ). AreWrittenTo c.args.wave.now c.args.step places c.anew_at-places.ensures n c.places.self.ends.items) all
    c.places.invariant.written)
