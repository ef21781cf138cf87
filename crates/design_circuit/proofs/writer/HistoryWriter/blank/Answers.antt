-- A row of blank bytes.
use Rattle.std.proofs.Common.{◌∙◌, length, ap, subst, sym}
use Rattle.base_ledger.specs.Ledger.{new_ledger}
use Rattle.design_circuit.specs.Handed.{IsBlank}
use Rattle.design_circuit.specs.History.{WriterView}
use Rattle.design_circuit.specs.Job.{job_of}
use Rattle.design_circuit.proofs.HistoryLemmas.{is_blank, writer_blank}
use Rattle.design_circuit.proofs.writer.HistoryWriter.blank.Goals as goal

pub returns-clause-new : goal.returns-clause-new
returns-clause-new c = rw c.as_slice.ensures (writer_blank _ _ _ (c.in_ok-rows.ensures ∙ ap (λ n. new_ledger n 10) (ap length c.as_slice-nets.ensures)))

pub returns-clause-blank : goal.returns-clause-blank
returns-clause-blank c order =
    subst (λ (w : WriterView). IsBlank (job_of c.args.design.now order c.args.stim.now) w.history) (sym (returns-clause-new c)) (is_blank c.args.design.now order c.args.stim.now)
