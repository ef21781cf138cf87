-- The places so far are those that the lane lists of the places so far.
use Rattle.std.proofs.Common.{◌≡◌, filter, map, take}
use Rattle.design_circuit.specs.Circuit.{job_in}
use Rattle.design_circuit.specs.Fits.{place_at}
use Rattle.decide_lane_nodes.specs.Given.{lane_given}
use Rattle.decide_lanes.proofs.pair.ones.Given as goal

abbrev pub invariant-places : goal.invariant-places
invariant-places l =
    l.places.items ≡ map (place_at (job_in l.circuit)) (filter (lane_given (job_in l.circuit) l.lane) (take l.index l.list))
