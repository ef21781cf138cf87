-- A carried place has the literal of the place that it is carried from, turned.
use Rattle.std.proofs.Common.{sym, ◌∙◌}
use Rattle.decide_lanes.proofs.CoveredLanes.{carried_next, carried_covered}
use Rattle.decide_lanes.proofs.lanes.Lanes.literal_by_class.Goals as goal

pub literal_at-requires : goal.literal_at-requires
literal_at-requires c =
    carried_covered c.args.wave.now c.args.self.now c.covered.result c.args.place c.in-Carried.from c.in-Carried.inverted
    c.recall.ensures c.requires.right c.requires.place c.requires.more
    (sym c.class_by_number.ensures ∙ c.in-Carried.is)
    (record { nodes = c.covered.ensures.nodes; first = c.covered.ensures.first; literals = c.covered.ensures.literals })

pub returns-in-Carried-clause-literal : goal.returns-in-Carried-clause-literal
returns-in-Carried-clause-literal c =
    carried_next c.args.wave.now c.args.self.now c.covered.result c.args.place c.in-Carried.from c.in-Carried.inverted
    c.literal_at.result c.turned.result
    c.recall.ensures c.requires.right c.requires.place c.requires.more c.requires.uncertain
    (sym c.class_by_number.ensures ∙ c.in-Carried.is)
    (record { nodes = c.covered.ensures.nodes; first = c.covered.ensures.first; literals = c.covered.ensures.literals })
    c.literal_at.ensures c.turned.ensures
