-- The places so far are those of the numbers so far.
use Rattle.std.proofs.Common.{◌≡◌, map, take}
use Rattle.design_circuit.specs.Circuit.{job_in}
use Rattle.design_circuit.specs.Fits.{place_at}
use Rattle.decide_lanes.proofs.shared.places_at.Given as goal

abbrev pub invariant-places : goal.invariant-places
invariant-places l = l.places.items ≡ map (place_at (job_in l.circuit)) (take l.index l.numbers)
