-- One position more is put.
use Rattle.std.proofs.Common.{◌<◌, ◌∙◌, length, ap, arith}
use Rattle.std.proofs.lemmas.List.{length-set}
use Rattle.design_circuit.specs.Job.{Job}
use Rattle.report_bits.proofs.Changing.{all_put}
use Rattle.report_bits.proofs.ends.Ends.put_all.Goals as goal

pub positions-preserved : goal.positions-preserved
positions-preserved c =
    let test = c.positions-test.true in
    let wide = c.width_of-nets.ensures ∙ ap (λ (j : Job). j.width) c.circuit.ensures.job in
    let long = c.positions.invariant.long in
    let within : c.positions.position < length c.positions.self.ends.items = omega (arith, test, wide, long) in
    record {
      long = ap length c.put_end.ensures ∙ length-set c.positions.self.ends.items c.positions.position _ ∙ long;
      each = all_put c.args.wave.now c.args.step c.positions.self.ends.items c.put_end.new.self.ends.items
          c.positions.position c.put_end.ensures within c.positions.invariant.each;
    }

pub returns : goal.returns
returns c =
    let test = c.positions-test.false in
    let end = c.positions.auto.position-end in
    let wide = c.width_of-nets.ensures ∙ ap (λ (j : Job). j.width) c.circuit.ensures.job in
    record {
      long = c.positions.invariant.long;
      each = λ p low. c.positions.invariant.each p (omega (arith, low, test, wide));
    }
