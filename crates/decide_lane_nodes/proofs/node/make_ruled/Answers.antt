-- The arguments are covered.
use Rattle.decide_lane_nodes.proofs.LiteralBits.{covered_arguments}
use Rattle.decide_lane_nodes.proofs.node.make_ruled.Goals as goal

pub sharing-sharing-requires : goal.sharing-sharing-requires
sharing-sharing-requires c =
    covered_arguments c.args.wave.now c.args.covered c.args.place c.args.arguments.now c.args.values
    c.recall.ensures c.requires.reach c.requires.rule c.requires.covered
