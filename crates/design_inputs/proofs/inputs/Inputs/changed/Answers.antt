-- The changes of the step.
use Rattle.design_inputs.proofs.RowLemmas.{are_changed}
use Rattle.design_inputs.proofs.inputs.Inputs.changed.Goals as goal

pub returns : goal.returns
returns c = are_changed c.self.inside.rows.width c.self.inside.rows.steps c.args.self.now c.args.moment c.changes_of.result.now c.self.invariant c.self.view_is c.requires.later c.requires.moment c.changes_of.ensures.changes c.changes_of.ensures.within c.changes_of.ensures.row
