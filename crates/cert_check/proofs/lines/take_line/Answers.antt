-- The line is taken, or the walk stops.
use Rattle.cert_check.proofs.Going.{finish_less}
use Rattle.cert_check.proofs.Taking.{astray_stops, beyond_stops, later_stops, stopped_line}
use Rattle.cert_check.proofs.lines.take_line.Goals as goal

pub returns-then-count-count_places-clause-err : goal.returns-then-count-count_places-clause-err
returns-then-count-count_places-clause-err c =
    stopped_line c.args.form c.args.number c.args.course.wave c.args.course.conditions.items c.args.line _
    (beyond_stops c.args.course.wave c.args.line c.args.number c.count.result c.count_places.result _ c.count.ensures.count
    c.count_places.ensures c.circuit.ensures.job c.if-count-count_places.true)

pub returns-in-Later-clause-err : goal.returns-in-Later-clause-err
returns-in-Later-clause-err c =
    stopped_line c.args.form c.args.number c.args.course.wave c.args.course.conditions.items c.args.line c.missing.result
    (later_stops c.args.course.wave c.args.line c.args.number c.missing.result
    (finish_less c.args.course.wave c.count.result c.count_places.result _ c.count.ensures.count c.count_places.ensures
    c.circuit.ensures.job c.requires.stops c.if-count-count_places.false) c.in-Later.ensures c.missing.ensures)

pub returns-clause-err : goal.returns-clause-err
returns-clause-err c =
    stopped_line c.args.form c.args.number c.args.course.wave c.args.course.conditions.items c.args.line _
    (astray_stops c.args.course.wave c.args.line c.args.number
    (finish_less c.args.course.wave c.count.result c.count_places.result _ c.count.ensures.count c.count_places.ensures
    c.circuit.ensures.job c.requires.stops c.if-count-count_places.false) c.in-Astray.ensures)
