-- The turn is made, or it isn't the next one.
use Rattle.std.proofs.Common.{Some, subst}
use Rattle.std.proofs.lemmas.Result.{IfErr-weaker, IfOk-weaker}
use Rattle.cert_turns.specs.TurnLines.{IsNoTurn}
use Rattle.cert_check.specs.Standing.{ComesAmid, EndsAmid, StopsAt, Takes}
use Rattle.cert_check.specs.Walk.{no_memory}
use Rattle.cert_check.proofs.Standing.{comes_turned, ends_turned, fault_turned, line_is_none, turn_is}
use Rattle.cert_check.proofs.turned.take_turned.Goals as goal

pub returns-in_default-clause-err : goal.returns-in_default-clause-err
returns-in_default-clause-err c form start done rest stands is =
    fault_turned form start done rest c.args.course.wave c.args.course.conditions.items c.args.condition c.args.entry c.args.number
    c.requires.due
    (λ l same. absurd (line_is_none c.args.entry c.in_default.field-0 l c.in_default.is same)) stands is

pub returns-in-Ok-Some-clause-ok : goal.returns-in-Ok-Some-clause-ok
returns-in-Ok-Some-clause-ok c form =
    IfOk-weaker c.take_up.result (ComesAmid c.args.course.wave c.args.course.conditions.items c.in-Ok-Some.next)
    (Takes form c.args.course.wave c.args.course.conditions.items (Some c.args.condition) c.args.entry)
    (λ next comes. comes_turned form c.args.course.wave c.args.course.conditions.items c.args.condition c.in-Ok-Some.next
    c.in-Turn.line c.args.entry next
    c.in-Turn.is (rw c.in-Ok-Some.field-0-is at c.in-Ok-Some.ensures.some) comes)
    c.take_up.ensures.ok

pub returns-in-Ok-Some-clause-err : goal.returns-in-Ok-Some-clause-err
returns-in-Ok-Some-clause-err c form =
    IfErr-weaker c.take_up.result (EndsAmid c.args.course.wave c.args.course.conditions.items c.in-Ok-Some.next)
    (StopsAt form c.args.number c.args.course.wave c.args.course.conditions.items (Some c.args.condition) c.args.entry)
    (λ e ends. ends_turned form c.args.number c.args.course.wave c.args.course.conditions.items c.args.condition c.in-Ok-Some.next
    c.in-Turn.line c.args.entry e
    c.in-Turn.is (rw c.in-Ok-Some.field-0-is at c.in-Ok-Some.ensures.some) ends)
    c.take_up.ensures.err

pub returns-in-Ok-None-clause-err : goal.returns-in-Ok-None-clause-err
returns-in-Ok-None-clause-err c form start done rest stands is =
    fault_turned form start done rest c.args.course.wave c.args.course.conditions.items c.args.condition c.args.entry c.args.number
    c.requires.due
    (λ l same. subst (IsNoTurn c.args.condition) (turn_is c.args.entry c.in-Turn.line l c.in-Turn.is same)
    (rw c.in-Ok-None.field-0-is at c.in-Ok-None.ensures.none)) stands is

pub returns-clause-err : goal.returns-clause-err
returns-clause-err c form start done rest stands is = no_memory
