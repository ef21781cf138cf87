-- The roots so far.
use Rattle.std.proofs.Common.{◌≡◌, map, take}
use Rattle.decide_lane_nodes.specs.Covered.{covered_root}
use Rattle.decide_lane_nodes.proofs.node.roots_at.Given as goal

abbrev pub invariant-places : goal.invariant-places
invariant-places l = l.roots.items ≡ map (covered_root l.covered) (take l.place-index l.places)
