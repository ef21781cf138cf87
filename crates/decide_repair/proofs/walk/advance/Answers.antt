-- The wave goes on in its job, or the place where it stops is found otherwise.
use Rattle.std.proofs.Common.{◌≡◌, IfErr, sym, subst, rules}
use Rattle.std.specs.Prelude.{Err, Result}
use Rattle.law_along.proofs.Fitted.{goes_along}
use Rattle.wave_proved.specs.Contents.{Contents}
use Rattle.decide_repair.proofs.Walking.{goes_same, stopped_refused}
use Rattle.decide_repair.specs.Step.{RefusedStep, stopped_by}
use Rattle.decide_repair.specs.declared.refusal.RepairErr.{RepairErr}
use Rattle.decide_repair.proofs.walk.advance.Goals as goal

pub returns-clause-same : goal.returns-clause-same
returns-clause-same c = goes_same c.in_ok-next.ensures.ok.goes

pub returns-clause-along : goal.returns-clause-along
returns-clause-along c = goes_along c.in_ok-next.ensures.ok.goes

pub returns-in_err-next-clause-err : goal.returns-in_err-next-clause-err
returns-in_err-next-clause-err c =
    let is : c.from_residual.result ≡ Err (stopped_by c.in_err-next.field-0.0) = search rules in
    subst (λ (r : Result Contents RepairErr). IfErr r (RefusedStep c.args.wave)) (sym is)
    (stopped_refused c.args.wave c.in_err-next.field-0.0 c.in_err-next.ensures.reported)
