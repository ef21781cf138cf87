-- The changes of the row of the step, and behind the last row each place is blank.
use Rattle.std.proofs.Common.{List, arith, subst, sym}
use Rattle.base_ledger.specs.declared.change.Change.{Change}
use Rattle.design_circuit.specs.Row.{AreWritten}
use Rattle.design_circuit.proofs.RowLemmas.{are_written, blank_behind}
use Rattle.design_circuit.proofs.history.History.written.Goals as goal

pub returns-then-step-steps-clause-none : goal.returns-then-step-steps-clause-none
returns-then-step-steps-clause-none c =
    let steps = c.steps.ensures in
    let past = c.if-step-steps.true in
    blank_behind c.self.inside.rows.width c.self.inside.steps c.self.inside.rows.steps c.args.self.now c.args.step c.self.view_is (omega (arith, steps, past))

pub returns-clause-some : goal.returns-clause-some
returns-clause-some c =
    let steps = c.steps.ensures in
    let less = c.if-step-steps.false in
    subst (λ (cs : List Change). AreWritten c.args.self.now c.args.step cs) (sym c.changes_of.ensures.changes)
    (are_written c.self.inside.nets c.self.inside.rows.width c.self.inside.steps c.self.inside.rows.steps c.args.self.now c.args.step c.self.view_is c.self.invariant c.requires.later (omega (arith, steps, less)) c.changes_of.ensures.row)
