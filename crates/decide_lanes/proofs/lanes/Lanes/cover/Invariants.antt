-- The lanes are right, of no more places than the count says.
use Rattle.std.proofs.Common.{◌-◌, ◌≤◌}
use Rattle.decide_lanes.specs.Lanes.{IsRightOf, count_of}
use Rattle.decide_lanes.proofs.lanes.Lanes.cover.Given as goal

abbrev pub invariant-places : goal.invariant-places
invariant-places l = record {
  right : IsRightOf l.wave l.self;
  few : count_of l.self ≤ l.count;
}

abbrev pub decreases-places : goal.decreases-places
decreases-places l = l.count - count_of l.self
