-- The groups of the counts.
use Rattle.std.proofs.Common.{sym, subst}
use Rattle.std.proofs.lemmas.Result.{IfOk-weaker}
use Rattle.design_circuit.specs.Circuit.{job_in}
use Rattle.report_audit.specs.Groups.{AreGroups}
use Rattle.report_audit.proofs.Counting.{are_groups}
use Rattle.report_audit.proofs.groups.groups_of.Goals as goal

pub returns : goal.returns
returns c =
    let j = job_in c.args.circuit.now in
    let listed = c.args.listed.now in
    IfOk-weaker c.list_counts.result _ _ (λ groups same. subst (AreGroups j listed) (sym same)
    (are_groups j listed c.in_ok-counts.counts c.in_ok-counts.ensures c.list_counts.ensures.ordered
    c.list_counts.ensures.found)) c.list_counts.ensures.groups
