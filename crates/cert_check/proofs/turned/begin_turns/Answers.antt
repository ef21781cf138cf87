-- The condition begins, or there is no memory.
use Rattle.std.proofs.lemmas.Result.{IfErr-weaker, IfOk-weaker}
use Rattle.cert_check.specs.Standing.{ComesAmid, ComesBehind, EndsAmid, EndsBehind}
use Rattle.cert_check.specs.Walk.{no_memory}
use Rattle.cert_check.proofs.Standing.{behind_amid}
use Rattle.cert_check.proofs.turned.begin_turns.Goals as goal

pub returns-in-Ok-clause-ok : goal.returns-in-Ok-clause-ok
returns-in-Ok-clause-ok c =
    IfOk-weaker c.take_up.result (ComesAmid c.args.course.wave c.args.course.conditions.items c.in-Ok.condition)
    (ComesBehind c.args.course.wave c.args.course.conditions.items c.args.place)
    (λ next comes start done behind. comes start done
    (behind_amid start done c.args.course.wave c.args.course.conditions.items c.args.place c.in-Ok.condition c.in-Ok.ensures.none
    c.in-Ok.ensures.condition behind))
    c.take_up.ensures.ok

pub returns-in-Ok-clause-err : goal.returns-in-Ok-clause-err
returns-in-Ok-clause-err c =
    IfErr-weaker c.take_up.result (EndsAmid c.args.course.wave c.args.course.conditions.items c.in-Ok.condition)
    (EndsBehind c.args.course.wave c.args.course.conditions.items c.args.place)
    (λ e ends start done rest behind. ends start done rest
    (behind_amid start done c.args.course.wave c.args.course.conditions.items c.args.place c.in-Ok.condition c.in-Ok.ensures.none
    c.in-Ok.ensures.condition behind))
    c.take_up.ensures.err

pub returns-clause-err : goal.returns-clause-err
returns-clause-err c start done rest behind = no_memory
