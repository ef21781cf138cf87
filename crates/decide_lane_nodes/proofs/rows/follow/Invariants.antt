-- The rows differ at most at the positions to come.
use Rattle.std.proofs.Common.{◌≡◌, length}
use Rattle.decide_lane_nodes.specs.Rows.{AgreeBut}
use Rattle.decide_lane_nodes.proofs.rows.follow.Given as goal

abbrev pub invariant-moved : goal.invariant-moved
invariant-moved l = record {
  long : length l.to ≡ length l.row;
  agree : AgreeBut l.to l.row l.moved l.k;
}
