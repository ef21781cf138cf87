-- The condition stands with the others, and the walk goes on.
use Rattle.std.proofs.Common.{subst, sym}
use Rattle.std.proofs.lemmas.Result.{IfErr-weaker, IfOk-weaker}
use Rattle.cert_writer.specs.declared.cert.Form.TheVariants.{Turns}
use Rattle.cert_check.specs.Standing.{ComesAmid, ComesFrom, EndsAmid, EndsFrom, IsBetween}
use Rattle.cert_check.specs.Walk.{no_memory}
use Rattle.cert_check.proofs.Standing.{closed_between}
use Rattle.cert_check.proofs.turned.close.Goals as goal

pub returns-in-Ok-clause-ok : goal.returns-in-Ok-clause-ok
returns-in-Ok-clause-ok c =
    IfOk-weaker c.walk_on.result (ComesFrom c.args.course.wave c.push.new.self.items)
    (ComesAmid c.args.course.wave c.args.course.conditions.items c.args.condition)
    (λ next comes start done amid. comes Turns start done
    (subst (IsBetween Turns start done c.args.course.wave) (sym c.in-Ok.ensures.items)
    (closed_between start done c.args.course.wave c.args.course.conditions.items c.args.condition c.requires.none_due amid)))
    c.walk_on.ensures.ok

pub returns-in-Ok-clause-err : goal.returns-in-Ok-clause-err
returns-in-Ok-clause-err c =
    IfErr-weaker c.walk_on.result (EndsFrom c.args.course.wave c.push.new.self.items)
    (EndsAmid c.args.course.wave c.args.course.conditions.items c.args.condition)
    (λ e ends start done rest amid. ends Turns start done rest
    (subst (IsBetween Turns start done c.args.course.wave) (sym c.in-Ok.ensures.items)
    (closed_between start done c.args.course.wave c.args.course.conditions.items c.args.condition c.requires.none_due amid)))
    c.walk_on.ensures.err

pub returns-clause-err : goal.returns-clause-err
returns-clause-err c start done rest amid = no_memory
