-- A certain place has the literal of its bit.
use Rattle.std.proofs.Common.{true, false, sym, ◌∙◌}
use Rattle.decide_lane_nodes.proofs.LiteralBits.{constant_literal}
use Rattle.decide_lanes.proofs.lanes.Lanes.literal_of.Goals as goal

pub returns-in-Zero-clause-literal : goal.returns-in-Zero-clause-literal
returns-in-Zero-clause-literal c =
    rw c.constant.ensures (constant_literal c.args.wave.now c.args.self.now.nodes c.args.place false
    c.recall.ensures c.requires.right.some c.requires.right.zero c.requires.more
    (sym c.certain_value.ensures ∙ c.in-Zero.is))

pub returns-in-One-clause-literal : goal.returns-in-One-clause-literal
returns-in-One-clause-literal c =
    rw c.constant-in-One.ensures (constant_literal c.args.wave.now c.args.self.now.nodes c.args.place true
    c.recall.ensures c.requires.right.some c.requires.right.zero c.requires.more
    (sym c.certain_value.ensures ∙ c.in-One.is))
