-- One change more is put.
use Rattle.std.proofs.Common.{◌≡◌, ◌<◌, ◌∙◌, List, length, ap, arith, subst, sym}
use Rattle.design_circuit.specs.Job.{Job}
use Rattle.design_circuit.specs.Order.{position_of}
use Rattle.base_ledger.specs.Change.{change_position, nth_change}
use Rattle.report_bits.specs.Ends.{AreBrought}
use Rattle.report_bits.specs.declared.ends.End.{End}
use Rattle.report_bits.proofs.Changing.{change_low, change_put, changes_shown}
use Rattle.report_bits.proofs.Ending.{brought_on, brought_put}
use Rattle.report_bits.proofs.ends.Ends.put_changes.Goals as goal

pub changes-preserved : goal.changes-preserved
changes-preserved c =
    let wave = c.args.wave.now in
    let is = c.circuit-circuit.ensures.wave in
    let changes = c.args.changes.now in
    let n = c.changes.change-index in
    let test = c.changes-test.true in
    let position = c.position-position.result in
    let at : position ≡ position_of wave.order (change_position (nth_change changes n)) =
    c.position-position.ensures.place
    ∙ ap (λ (j : Job). position_of j.order c.position.result) c.circuit-circuit.ensures.job
    ∙ ap (position_of wave.order) c.position.ensures in
    let ends = c.changes.self.ends.items in
    let long = c.changes.invariant.brought.long ∙ c.requires.long in
    let low = change_low wave is c.args.step changes c.requires.changes.inside n test in
    let within : position < length ends = omega (arith, low, at, long) in
    record {
      brought = brought_on wave c.args.step c.args.self.now.ends.items ends c.put_end.new.self.ends.items
          c.changes.invariant.brought
          (subst (λ (l : List End). AreBrought wave c.args.step ends l) (sym c.put_end.ensures)
          (brought_put wave c.args.step ends position within));
      listed = change_put wave is c.args.step changes ends c.put_end.new.self.ends.items n position
          c.requires.changes.inside test at long c.put_end.ensures c.changes.invariant.listed;
    }

pub returns-clause-shown : goal.returns-clause-shown
returns-clause-shown c =
    let test = c.changes-test.false in
    let end = c.changes.auto.change-index-end in
    changes_shown c.args.wave.now c.circuit-circuit.ensures.wave c.args.step c.args.changes.now
    c.changes.self.ends.items c.requires.whole c.requires.changes
    (λ i less. c.changes.invariant.listed i (omega (arith, less, test, end)))
