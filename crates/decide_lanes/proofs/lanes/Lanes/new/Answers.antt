-- No place is covered.
use Rattle.std.proofs.Common.{ap}
use Rattle.decide_lane_nodes.specs.Rows.{RowsView}
use Rattle.decide_lanes.proofs.SharedLanes.{right_of_none}
use Rattle.decide_lanes.proofs.lanes.Lanes.new.Goals as goal

pub returns : goal.returns
returns c d = right_of_none d c.in_ok-new.field-0 c.in_ok-new-2.field-0.literals c.new-3.result c.new-4.result
    c.in_ok-new-2.field-0.width c.in_ok-new.ensures (ap (λ (v : RowsView). v.literals) c.in_ok-new-2.ensures)
    c.new-3.ensures c.new-4.ensures
