-- The pair stands in the order that the empty filling says.
use Rattle.std.proofs.Common.{sym, ◌∙◌}
use Rattle.decide_pair.proofs.NextPairs.{pair_down, pair_up}
use Rattle.decide_pair.proofs.tries.pair_of_lane.Goals as goal

pub from_law-requires-clause-law : goal.from_law-requires-clause-law
from_law-requires-clause-law c =
    rw (c.in_ok-other.ensures, c.from_vec-empty.ensures, c.new.ensures.items)
    (pair_down c.args.wave.now c.args.cone.now.nodes c.requires.cone c.args.given.now c.args.lane c.requires.differs
    (sym c.base.ensures ∙ c.if-base.true))

pub from_law-requires-else-base-clause-law : goal.from_law-requires-else-base-clause-law
from_law-requires-else-base-clause-law c =
    rw (c.in_ok-other.ensures, c.from_vec-empty.ensures, c.new.ensures.items)
    (pair_up c.args.wave.now c.args.cone.now.nodes c.requires.cone c.args.given.now c.args.lane c.requires.differs
    (sym c.base.ensures ∙ c.if-base.false))
