-- What comes in is below the bound.
use Rattle.std.proofs.Common.{◌<◌, slice_index}
use Rattle.decide_nodes.proofs.NodeWorlds.{all_at}
use Rattle.decide_tables.proofs.ReachedNodes.{added_below}
use Rattle.decide_tables.proofs.missing.insert_all.Goals as goal

pub arguments-preserved : goal.arguments-preserved
arguments-preserved c =
    added_below c.arguments.reached c.insert.new.self (slice_index c.args.arguments.now c.arguments.index) c.args.bound
    c.in_ok-insert.ensures
    (all_at (λ k. k < c.args.bound) c.args.arguments.now c.arguments.index c.requires.arguments c.arguments-test.true)
    c.arguments.invariant
