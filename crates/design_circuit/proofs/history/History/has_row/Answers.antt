-- Behind the last row each place is blank.
use Rattle.std.proofs.Common.{arith, ltb-false}
use Rattle.design_circuit.proofs.RowLemmas.{blank_behind}
use Rattle.design_circuit.proofs.history.History.has_row.Goals as goal

pub returns : goal.returns
returns c none =
    let steps = c.steps.ensures in
    let past = ltb-false c.args.step c.steps.result none in
    blank_behind c.self.inside.rows.width c.self.inside.steps c.self.inside.rows.steps c.args.self.now c.args.step c.self.view_is (omega (arith, steps, past))
