-- The byte of the row of the step, blank after the last one.
use Rattle.std.proofs.Common.{arith}
use Rattle.design_circuit.specs.History.{net_place}
use Rattle.design_circuit.proofs.HistoryLemmas.{byte_after, byte_there}
use Rattle.design_circuit.proofs.history.History.byte.Goals as goal

pub returns-then-step-steps : goal.returns-then-step-steps
returns-then-step-steps c has =
    let steps = c.steps.ensures in
    let past = c.if-step-steps.true in
    byte_after c.self.inside.rows.width c.self.inside.steps c.self.inside.rows.steps c.args.self.now (net_place c.args.step c.args.net) c.self.view_is has (omega (arith, steps, past))

pub returns : goal.returns
returns c has =
    let steps = c.steps.ensures in
    let less = c.if-step-steps.false in
    byte_there c.self.inside.rows.width c.self.inside.steps c.self.inside.rows.steps c.args.self.now (net_place c.args.step c.args.net) c.at.result c.self.view_is has (omega (arith, steps, less)) c.at.ensures
