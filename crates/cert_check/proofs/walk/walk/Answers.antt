-- The places before the first line, and the lines.
use Rattle.std.proofs.Common.{[]}
use Rattle.std.proofs.lemmas.Result.{IfErr-weaker, IfOk-weaker}
use Rattle.wave_proved.specs.Contents.{Contents}
use Rattle.cert_check.specs.Standing.{IsDone, Stands}
use Rattle.cert_check.specs.Walk.{IsFirstCertFault, no_memory}
use Rattle.cert_check.proofs.Standing.{begins_between}
use Rattle.cert_check.proofs.walk.walk.Goals as goal

pub returns-in-Ok-walk_on-clause-done : goal.returns-in-Ok-walk_on-clause-done
returns-in-Ok-walk_on-clause-done c =
    IfOk-weaker c.take_entries.result
    (λ checked. (start : Contents) → Stands c.args.form start [] c.in-Ok-walk_on.begun
    → IsDone c.args.form start c.args.entries.items checked.wave checked.conditions) _
    (λ checked done. done c.args.wave
    (c.in-Ok-walk_on.ensures.ok c.args.form c.args.wave []
    (begins_between c.args.form c.args.wave c.new.result.items c.recall.ensures c.requires
    c.new.ensures.items)))
    c.take_entries.ensures.done

pub returns-in-Ok-walk_on-clause-stops : goal.returns-in-Ok-walk_on-clause-stops
returns-in-Ok-walk_on-clause-stops c =
    IfErr-weaker c.take_entries.result
    (λ e. (start : Contents) → Stands c.args.form start [] c.in-Ok-walk_on.begun
    → IsFirstCertFault c.args.form start c.args.entries.items e) _
    (λ e stops. stops c.args.wave
    (c.in-Ok-walk_on.ensures.ok c.args.form c.args.wave []
    (begins_between c.args.form c.args.wave c.new.result.items c.recall.ensures c.requires
    c.new.ensures.items)))
    c.take_entries.ensures.stops

pub returns-in-Ok-clause-stops : goal.returns-in-Ok-clause-stops
returns-in-Ok-clause-stops c =
    c.in-Err-walk_on.ensures.err c.args.form c.args.wave [] c.args.entries.items
    (begins_between c.args.form c.args.wave c.new.result.items c.recall.ensures c.requires
    c.new.ensures.items)

pub returns-clause-stops : goal.returns-clause-stops
returns-clause-stops c = no_memory
