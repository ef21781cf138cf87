-- The wave goes on, line by line.
use Rattle.std.proofs.Common.{◌-◌, ap, ◌∙◌}
use Rattle.design_circuit.specs.Job.{Job, places_of}
use Rattle.decide_repair.proofs.Pieces.{way_along, way_begins, way_further, way_less, way_line}
use Rattle.decide_repair.proofs.walk.write_lines.Goals as goal

pub lines-init : goal.lines-init
lines-init c =
    way_begins c.args.wave c.in_ok-written.written c.args.aids.now c.count_places-all.result c.args.lines
    c.circuit.ensures.wave c.requires.right
    (c.count_places-all.ensures ∙ ap (λ (j : Job). places_of j) c.circuit.ensures.job) c.in_ok-written.ensures.ok
    c.in_ok-written.ensures.same c.in_ok-written.ensures.along

pub write_next-requires-clause-class : goal.write_next-requires-clause-class
write_next-requires-clause-class c =
    way_line c.args.wave c.lines.written c.lines.aids c.count_places-all.result c.args.lines c.lines.left
    c.lines.invariant (c.is_open.ensures.more c.lines-test.true).1

pub write_next-requires-clause-along : goal.write_next-requires-clause-along
write_next-requires-clause-along c =
    way_along c.args.wave c.lines.written c.lines.aids c.count_places-all.result c.args.lines c.lines.left
    c.lines.invariant c.requires.along

pub lines-preserved : goal.lines-preserved
lines-preserved c =
    way_further c.args.wave c.lines.written c.in_ok-written-2.written c.lines.aids c.write_next.new.aids
    c.count_places-all.result c.args.lines c.lines.left (c.lines.left - 1) c.lines.invariant c.in_ok-written-2.ensures.ok
    c.in_ok-written-2.ensures.along c.in_ok-written-2.ensures.right

pub returns-clause-less : goal.returns-clause-less
returns-clause-less c =
    way_less c.args.wave c.lines.written c.lines.aids c.count_places-all.result c.args.lines c.lines.left
    c.lines.invariant c.requires.some (c.is_open.ensures.ends c.lines-test.false)
