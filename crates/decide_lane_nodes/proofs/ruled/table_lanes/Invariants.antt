-- The lanes so far are those of the arguments so far.
use Rattle.std.proofs.Common.{◌≡◌, ℕ, ◌<◌, [], length, slice_index, slice_index_or}
use Rattle.decide_nodes.specs.Lanes.{HasLanes}
use Rattle.decide_lane_nodes.specs.Covered.{covered_bit}
use Rattle.decide_lane_nodes.proofs.ruled.table_lanes.Given as goal

abbrev pub invariant-arguments : goal.invariant-arguments
invariant-arguments l = record {
  long : length l.given ≡ 13;
  are : (k : ℕ) → k < l.index
      → HasLanes (slice_index_or l.given k []) (λ lane. covered_bit l.covered lane (slice_index l.arguments k));
}
