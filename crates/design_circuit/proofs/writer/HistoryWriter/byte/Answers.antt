-- The byte of the row of the step, blank after the one under way.
use Rattle.std.proofs.Common.{arith, ap}
use Rattle.base_ledger.specs.Ledger.{steps_of}
use Rattle.design_circuit.specs.History.{WriterView}
use Rattle.design_circuit.proofs.HistoryLemmas.{byte_after, byte_there, steps_so_far}
use Rattle.design_circuit.proofs.writer.HistoryWriter.byte.Goals as goal

pub returns-then-step : goal.returns-then-step
returns-then-step c =
    let step = c.step.ensures in
    let past = c.if-step.true in
    let long = steps_so_far c.self.inside.rows in
    byte_after c.self.inside.rows.width c.self.inside.steps (steps_of c.self.inside.rows) c.args.self.now.history c.args.place (ap (λ (v : WriterView). v.history) c.self.view_is) c.requires (omega (arith, step, past, long))

pub returns : goal.returns
returns c =
    let step = c.step.ensures in
    let less = c.if-step.false in
    let long = steps_so_far c.self.inside.rows in
    byte_there c.self.inside.rows.width c.self.inside.steps (steps_of c.self.inside.rows) c.args.self.now.history c.args.place c.at.result (ap (λ (v : WriterView). v.history) c.self.view_is) c.requires (omega (arith, step, less, long)) c.at.ensures
