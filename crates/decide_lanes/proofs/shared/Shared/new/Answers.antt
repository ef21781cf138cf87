-- There are no tables.
use Rattle.decide_lanes.proofs.SharedTables.{shared_empty}
use Rattle.decide_lanes.proofs.shared.Shared.new.Goals as goal

pub returns : goal.returns
returns c d graph = shared_empty d graph c.new.result.items c.new-2.result c.new.ensures.items c.new-2.ensures.list
    c.new-2.ensures.right
