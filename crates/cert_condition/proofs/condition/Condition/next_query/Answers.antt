-- The query that is kept is that of the next turn.
use Rattle.std.proofs.Common.{◌<◌, refl, sym, subst}
use Rattle.cert_condition.specs.View.{ConditionView, IsNextQuery}
use Rattle.cert_condition.specs.contracts.condition.Condition.{the_view}
use Rattle.cert_condition.proofs.NextTurns.{next_query}
use Rattle.cert_condition.proofs.condition.Condition.next_query.Goals as goal

pub returns-clause-query : goal.returns-clause-query
returns-clause-query c =
    let old : ConditionView = the_view c.self.inside in
    let some : 0 < old.due = subst (λ (v : ConditionView). 0 < v.due) (sym c.self.view_is) c.requires in
    subst (λ v. IsNextQuery v old.next.query) c.self.view_is (next_query old old.next.query some refl)
