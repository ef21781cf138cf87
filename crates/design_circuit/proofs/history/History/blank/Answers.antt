-- Nothing is written.
use Rattle.std.proofs.Common.{◌∙◌, ap, sym, subst}
use Rattle.design_circuit.specs.Handed.{IsBlank}
use Rattle.design_circuit.specs.History.{HistoryView, WriterView}
use Rattle.design_circuit.specs.Job.{job_of}
use Rattle.design_circuit.proofs.HistoryLemmas.{is_blank}
use Rattle.design_circuit.proofs.history.History.blank.Goals as goal

pub returns-clause-blank : goal.returns-clause-blank
returns-clause-blank c order =
    subst (λ (h : HistoryView). IsBlank (job_of c.args.design.now order c.args.stim.now) h)
    (sym (c.in_ok-history.ensures ∙ ap (λ (v : WriterView). v.history) c.in_ok-writer.ensures.new))
    (is_blank c.args.design.now order c.args.stim.now)
