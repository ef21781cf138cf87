-- The next wave goes along the line, and what helps is right of it; or the place is found otherwise.
use Rattle.std.proofs.Common.{◌≡◌, IfErr, sym, subst, rules}
use Rattle.std.specs.Prelude.{Err, Ok, Result}
use Rattle.wave_proved.specs.Contents.{Contents}
use Rattle.decide_repair.specs.Step.{RefusedStep, stopped_by}
use Rattle.decide_repair.specs.declared.refusal.RepairErr.{RepairErr}
use Rattle.decide_repair.proofs.Walking.{next_written, right_next, spent_along, written_refused}
use Rattle.decide_repair.proofs.walk.decide_next.Goals as goal

pub returns-clause-ok : goal.returns-clause-ok
returns-clause-ok c = next_written c.args.wave c.in_ok-next.next c.in_ok-verdict.verdict c.in_ok-next.ensures.ok

pub returns-clause-along : goal.returns-clause-along
returns-clause-along c =
    spent_along c.args.wave c.in_ok-next.next c.in_ok-verdict.verdict c.requires.class c.in_ok-verdict.ensures.accepts
    c.in_ok-next.ensures.agrees c.in_ok-next.ensures.ok

pub returns-clause-right : goal.returns-clause-right
returns-clause-right c =
    right_next c.args.wave c.find.new.aids (Ok c.in_ok-next.next) c.requires.sound c.in_ok-verdict.ensures.right
    (next_written c.args.wave c.in_ok-next.next c.in_ok-verdict.verdict c.in_ok-next.ensures.ok)

pub returns-in_err-next-clause-err : goal.returns-in_err-next-clause-err
returns-in_err-next-clause-err c =
    let is : c.from_residual-in_err-next.result ≡ Err (stopped_by c.in_err-next.field-0.0) = search rules in
    subst (λ (r : Result Contents RepairErr). IfErr r (RefusedStep c.args.wave)) (sym is)
    (written_refused c.args.wave c.in_ok-verdict.verdict c.in_err-next.field-0.0 c.requires.sound c.requires.class
    c.in_ok-verdict.ensures.accepts.line_holds c.in_err-next.ensures.optimistic.0 c.in_err-next.ensures.reported)
