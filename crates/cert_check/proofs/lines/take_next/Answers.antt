-- The line is spent, or the walk stops; then its turns are due, or the places after it.
use Rattle.std.proofs.Common.{None}
use Rattle.std.proofs.lemmas.Result.{IfErr-weaker, IfOk-weaker}
use Rattle.cert_turns.specs.Conditions.{gives_bit}
use Rattle.cert_writer.specs.declared.cert.Entry.TheVariants.{Line}
use Rattle.cert_check.specs.Standing.{ComesBehind, ComesFrom, EndsBehind, EndsFrom, StopsAt, Takes}
use Rattle.cert_check.proofs.Taking.{comes_behind, comes_unturned, ends_behind, ends_unturned, settled_spent, stopped_line, unturned}
use Rattle.cert_check.proofs.lines.take_next.Goals as goal

pub returns-clause-err : goal.returns-clause-err
returns-clause-err c =
    stopped_line c.args.form c.args.number c.args.course.wave c.args.course.conditions.items c.args.line c.in-Err.refusal
    c.in-Err.ensures.err

pub begin_turns-requires-clause-settled : goal.begin_turns-requires-clause-settled
begin_turns-requires-clause-settled c =
    settled_spent c.args.course.wave c.in-Ok.spent c.args.line c.recall.ensures
    (c.has_turns-turned.ensures.0 c.if-turned.true).1
    c.in-Ok.ensures.ok

pub returns-then-turned-clause-ok : goal.returns-then-turned-clause-ok
returns-then-turned-clause-ok c =
    let turned = c.has_turns-turned.ensures.0 c.if-turned.true in
    IfOk-weaker c.begin_turns.result (ComesBehind c.in-Ok.spent c.args.course.conditions.items c.args.line.place)
    (Takes c.args.form c.args.course.wave c.args.course.conditions.items None (Line c.args.line))
    (λ next. comes_behind c.args.form c.args.course.wave c.in-Ok.spent c.args.course.conditions.items c.args.line next turned.0
    turned.1 c.requires.class
    c.in-Ok.ensures.ok)
    c.begin_turns.ensures.ok

pub returns-then-turned-clause-err : goal.returns-then-turned-clause-err
returns-then-turned-clause-err c =
    let turned = c.has_turns-turned.ensures.0 c.if-turned.true in
    IfErr-weaker c.begin_turns.result (EndsBehind c.in-Ok.spent c.args.course.conditions.items c.args.line.place)
    (StopsAt c.args.form c.args.number c.args.course.wave c.args.course.conditions.items None (Line c.args.line))
    (λ e. ends_behind c.args.form c.args.number c.args.course.wave c.in-Ok.spent c.args.course.conditions.items c.args.line e turned.0
    turned.1
    c.requires.class c.in-Ok.ensures.ok)
    c.begin_turns.ensures.err

pub returns-in-Ok-clause-ok : goal.returns-in-Ok-clause-ok
returns-in-Ok-clause-ok c =
    IfOk-weaker c.walk_on.result (ComesFrom c.in-Ok.spent c.args.course.conditions.items)
    (Takes c.args.form c.args.course.wave c.args.course.conditions.items None (Line c.args.line))
    (λ next. comes_unturned c.args.form c.args.course.wave c.in-Ok.spent c.args.course.conditions.items c.args.line next
    (unturned c.args.form (gives_bit c.args.line.body) c.has_turns-turned.result c.has_turns-turned.ensures.1
    c.if-turned.false)
    c.recall.ensures c.requires.class c.in-Ok.ensures.ok)
    c.walk_on.ensures.ok

pub returns-in-Ok-clause-err : goal.returns-in-Ok-clause-err
returns-in-Ok-clause-err c =
    IfErr-weaker c.walk_on.result (EndsFrom c.in-Ok.spent c.args.course.conditions.items)
    (StopsAt c.args.form c.args.number c.args.course.wave c.args.course.conditions.items None (Line c.args.line))
    (λ e. ends_unturned c.args.form c.args.number c.args.course.wave c.in-Ok.spent c.args.course.conditions.items c.args.line e
    (unturned c.args.form (gives_bit c.args.line.body) c.has_turns-turned.result c.has_turns-turned.ensures.1
    c.if-turned.false)
    c.recall.ensures c.requires.class c.in-Ok.ensures.ok)
    c.walk_on.ensures.err
