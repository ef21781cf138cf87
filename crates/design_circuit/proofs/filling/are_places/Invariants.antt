-- The places so far are places.
use Rattle.std.proofs.Common.{take}
use Rattle.std.specs.List.{AllByRecursion}
use Rattle.design_circuit.specs.Circuit.{job_in}
use Rattle.design_circuit.specs.Filling.{IsPlace}
use Rattle.design_circuit.proofs.filling.are_places.Given as goal

abbrev pub invariant-places : goal.invariant-places
invariant-places l = AllByRecursion (IsPlace (job_in l.circuit)) (take l.place-index l.places)
