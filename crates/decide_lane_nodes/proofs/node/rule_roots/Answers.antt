-- The arguments are covered, and have nodes of their own: those of their roots.
use Rattle.decide_lane_nodes.proofs.ArgumentRoots.{are_roots, own_arguments}
use Rattle.decide_lane_nodes.proofs.LiteralBits.{covered_arguments}
use Rattle.decide_lane_nodes.proofs.node.rule_roots.Goals as goal

pub roots_at-requires-clause-covered : goal.roots_at-requires-clause-covered
roots_at-requires-clause-covered c =
    covered_arguments c.args.wave.now c.args.covered c.args.place c.args.arguments.now c.args.values.now
    c.recall.ensures c.requires.reach c.requires.rule c.requires.covered

pub roots_at-requires-clause-own : goal.roots_at-requires-clause-own
roots_at-requires-clause-own c =
    own_arguments c.args.wave.now c.args.covered c.args.place c.args.arguments.now c.args.values.now
    c.recall.ensures c.requires.reach c.requires.rule c.requires.covered

pub returns : goal.returns
returns c =
    are_roots c.args.wave.now c.args.covered c.args.place c.args.arguments.now c.args.values.now c.in_ok-roots.roots.items
    c.recall.ensures c.requires.reach c.requires.rule c.requires.covered c.requires.before c.in_ok-roots.ensures
