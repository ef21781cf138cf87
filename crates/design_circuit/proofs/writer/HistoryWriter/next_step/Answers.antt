-- The ledger goes on to its next step.
use Rattle.design_circuit.proofs.HistoryLemmas.{writer_next}
use Rattle.design_circuit.proofs.RowLemmas.{rows_next}
use Rattle.design_circuit.proofs.writer.HistoryWriter.next_step.Goals as goal

pub returns-clause-ok : goal.returns-clause-ok
returns-clause-ok c = writer_next c.self.inside.rows c.turn.new.self c.self.inside.steps c.args.self.now c.self.view_is c.in_ok-turn.ensures.ok

pub invariant_of-self-2 : goal.invariant_of-self-2
invariant_of-self-2 c = rows_next c.self.inside.nets c.self.inside.rows c.turn.new.self c.in_ok-turn.ensures.ok c.self.invariant
