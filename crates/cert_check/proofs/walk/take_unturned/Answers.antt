-- A turn where a line is due.
use Rattle.cert_check.proofs.Taking.{turn_stops}
use Rattle.cert_check.proofs.walk.take_unturned.Goals as goal

pub returns-clause-err : goal.returns-clause-err
returns-clause-err c =
    turn_stops c.args.form c.args.number c.args.course.wave c.args.course.conditions.items c.in-Turn.field-0 c.args.entry
    c.requires.stops c.in-Turn.is
