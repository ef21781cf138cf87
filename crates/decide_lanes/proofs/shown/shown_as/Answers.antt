-- The place has its bit in every world, and so has the next one.
use Rattle.std.proofs.Common.{false, true, sym, ◌∙◌}
use Rattle.decide_lanes.proofs.EqualNodes.{gives_again}
use Rattle.decide_lanes.proofs.shown.shown_as.Goals as goal

pub settled_as-requires-clause-every : goal.settled_as-requires-clause-every
settled_as-requires-clause-every c =
    gives_again c.args.wave.now c.args.place false c.recall.ensures c.requires.written c.requires.bits
    (sym c.certain_value.ensures ∙ c.in-Zero.is)

pub settled_as-requires-in-One-clause-every : goal.settled_as-requires-in-One-clause-every
settled_as-requires-in-One-clause-every c =
    gives_again c.args.wave.now c.args.place true c.recall.ensures c.requires.written c.requires.bits
    (sym c.certain_value.ensures ∙ c.in-One.is)
