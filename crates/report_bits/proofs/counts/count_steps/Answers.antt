-- Each step is counted once.
use Rattle.std.proofs.Common.{◌≡◌, ◌+◌, ◌-◌, ◌*◌, ◌≤◌, ◌∙◌, length, ap, arith, subst}
use Rattle.std.proofs.Math.Nat.{mul-le-mul_right}
use Rattle.design_circuit.specs.Job.{Job}
use Rattle.report_bits.specs.Counts.{counts_below, total}
use Rattle.report_bits.specs.Ends.{AreEndsAt}
use Rattle.report_bits.proofs.Counting.{counted_step, total_among, total_below}
use Rattle.report_bits.proofs.Ending.{counts_are}
use Rattle.report_bits.proofs.counts.count_steps.Goals as goal

pub steps-init : goal.steps-init
steps-init c = record {
  rows = c.in_ok-rows.ensures;
  counts =
      let e : 0 ≡ 0 * length c.args.wave.now.design.nets = omega arith in
      ap (counts_below c.args.wave.now) e;
  long = c.in_ok-ends.ensures ∙ c.width_of.ensures ∙ ap (λ (j : Job). j.width) c.circuit.ensures.job;
  last = λ less. absurd (omega (arith, less));
}

pub bring_rows-requires-clause-whole : goal.bring_rows-requires-clause-whole
bring_rows-requires-clause-whole c =
    let width = length c.args.wave.now.design.nets in
    let test = c.steps-test.true in
    let most : (c.steps.step + 1) * width ≤ c.args.steps * width = mul-le-mul_right width (omega (arith, test)) in
    let within = c.requires.within in
    omega (arith, most, within)

pub bring-requires-clause-whole : goal.bring-requires-clause-whole
bring-requires-clause-whole c =
    let width = length c.args.wave.now.design.nets in
    let test = c.steps-test.true in
    let most : (c.steps.step + 1) * width ≤ c.args.steps * width = mul-le-mul_right width (omega (arith, test)) in
    let within = c.requires.within in
    omega (arith, most, within)

pub add_counts-requires : goal.add_counts-requires
add_counts-requires c =
    let wave = c.args.wave.now in
    let width = length wave.design.nets in
    let test = c.steps-test.true in
    let most : (c.steps.step + 1) * width ≤ c.args.steps * width = mul-le-mul_right width (omega (arith, test)) in
    let within = c.requires.within in
    let up = c.recall.ensures.holds.sound.within in
    let few = c.recall.ensures.few in
    let counts = ap total c.steps.invariant.counts ∙ total_below wave (c.steps.step * width) in
    let are = c.counts-more.ensures ∙ counts_are wave c.steps.step c.bring.new.self.ends.items c.bring.ensures in
    let last = ap total are ∙ total_among wave (c.steps.step * width) width in
    omega (arith, most, within, up, few, counts, last)

pub steps-preserved : goal.steps-preserved
steps-preserved c =
    let wave = c.args.wave.now in
    let back : c.steps.step ≡ c.steps.step + 1 - 1 = omega arith in
    let are = c.counts-more.ensures ∙ counts_are wave c.steps.step c.bring.new.self.ends.items c.bring.ensures in
    record {
      rows = c.in_ok-bring_rows.ensures.are;
      counts = counted_step wave c.steps.step c.steps.counts c.counts-more.result c.add_counts.new.self
          c.steps.invariant.counts are c.add_counts.ensures;
      long = c.bring.ensures.long;
      last = λ less. subst (λ s. AreEndsAt wave s c.bring.new.self.ends.items) back c.bring.ensures;
    }
