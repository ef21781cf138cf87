-- The places so far are those that are chosen of the sources so far.
use Rattle.std.proofs.Common.{◌≡◌, take}
use Rattle.decide_nodes.specs.Lanes.{lane_of}
use Rattle.decide_nodes.specs.Nodes.{chosen}
use Rattle.decide_nodes.proofs.lanes.chosen_places.Given as goal

abbrev pub invariant-sources : goal.invariant-sources
invariant-sources l = l.places.items ≡ chosen (take l.source l.sources) (lane_of l.given l.lane)
