-- A copy of the query that is kept.
use Rattle.std.proofs.Common.{sym, subst}
use Rattle.std.proofs.lemmas.Result.{IfOk-weaker}
use Rattle.cert_condition.specs.View.{IsNextQuery}
use Rattle.cert_condition.proofs.condition.Condition.query.Goals as goal

pub returns : goal.returns
returns c = IfOk-weaker c.copy_of.result _ (IsNextQuery c.args.self.now)
    (λ copy same. subst (IsNextQuery c.args.self.now) (sym same) c.next_query.ensures.query) c.copy_of.ensures
