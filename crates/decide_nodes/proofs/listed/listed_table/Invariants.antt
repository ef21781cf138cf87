-- The lanes so far are those of the sources so far.
use Rattle.std.proofs.Common.{◌≡◌, map, take}
use Rattle.decide_nodes.specs.Listed.{listed_lanes}
use Rattle.decide_nodes.proofs.listed.listed_table.Given as goal

abbrev pub invariant-sources : goal.invariant-sources
invariant-sources l = l.lane_table.items ≡ map (listed_lanes l.filling) (take l.source-index l.sources)
