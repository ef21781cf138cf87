-- The log refutes the formula, since that has all clauses that it needs.
use Rattle.std.proofs.Common.{sym, subst, ◌∙◌}
use Rattle.sat_proof.specs.Log.{Refutes}
use Rattle.sat_query.proofs.MoreClauses.{refutes_more}
use Rattle.sat_query.specs.Core.{AreAmong}
use Rattle.sat_query.proofs.cores.Core.refute.Goals as goal

pub from_log-requires : goal.from_log-requires
from_log-requires c =
    let own = c.self.inside.formula.clauses in
    let all = c.args.formula.now.clauses in
    let found = c.has_all.ensures c.if-not-has_all.false in
    let among = subst (AreAmong own) c.as_slice-all.ensures
    (subst (λ some. AreAmong some c.as_slice-all.result.now) c.as_slice-some.ensures found) in
    let log = c.from_vec-log.ensures ∙ c.in_ok-copied.ensures ∙ c.as_slice.ensures.value in
    record {
      refutes = refutes_more own all c.from_vec-log.result among (subst (Refutes own) (sym log) c.self.invariant.refutes);
    }
