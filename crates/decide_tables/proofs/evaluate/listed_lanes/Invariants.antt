-- The lanes so far are those in which the place is listed, of the places so far.
use Rattle.std.proofs.Common.{◌+◌, ◌*◌, take}
use Rattle.decide_nodes.specs.Lanes.{HasLanes}
use Rattle.decide_nodes.specs.Nodes.{chosen, is_listed, number_bits}
use Rattle.decide_tables.proofs.evaluate.listed_lanes.Given as goal

abbrev pub invariant-sources : goal.invariant-sources
invariant-sources l =
    HasLanes l.lanes (λ lane. is_listed (chosen (take l.source l.list) (number_bits (256 * l.block + lane))) l.place)
