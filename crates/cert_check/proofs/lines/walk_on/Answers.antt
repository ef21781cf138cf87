-- The wave goes on, or stops.
use Rattle.std.proofs.Common.{◌≡◌, IfErr, sym, subst, rules}
use Rattle.std.specs.Prelude.{Err, Result}
use Rattle.cert_check.proofs.Going.{right_on}
use Rattle.cert_check.proofs.Standing.{goes_between, stops_between}
use Rattle.cert_check.specs.Standing.{EndsFrom}
use Rattle.cert_check.specs.Words.{stopped_by}
use Rattle.cert_check.specs.declared.refusal.CheckErr.{CheckErr}
use Rattle.cert_check.specs.declared.walked.Walked.{Walked}
use Rattle.cert_check.proofs.lines.walk_on.Goals as goal

pub returns-clause-ok : goal.returns-clause-ok
returns-clause-ok c form start done stands =
    goes_between form start done c.args.course.wave _ c.args.course.conditions.items c.in_ok-next.ensures.ok.goes stands

pub returns-clause-waits : goal.returns-clause-waits
returns-clause-waits c = record {
  waits = c.in_ok-next.ensures.ok.stops;
  right = right_on c.args.course.wave _ c.args.course.cones.value c.recall.ensures c.in_ok-next.ensures.ok.goes c.requires;
}

pub returns-in_err-next-clause-err : goal.returns-in_err-next-clause-err
returns-in_err-next-clause-err c =
    let is : c.from_residual.result ≡ Err (stopped_by c.in_err-next.field-0.0) = search rules in
    subst (λ (r : Result Walked CheckErr). IfErr r (EndsFrom c.args.course.wave c.args.course.conditions.items)) (sym is)
    (stops_between c.args.course.wave c.args.course.conditions.items c.in_err-next.field-0.0 c.in_err-next.ensures.reported)
