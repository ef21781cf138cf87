-- The numbers so far have their places.
use Rattle.std.proofs.Common.{◌≡◌, map, take}
use Rattle.design_circuit.specs.Circuit.{job_in}
use Rattle.design_circuit.specs.Fits.{place_at}
use Rattle.wave_proved.proofs.arguments.places_of_numbers.Given as goal

abbrev pub invariant-numbers : goal.invariant-numbers
invariant-numbers l = l.arguments ≡ map (place_at (job_in l.circuit)) (take l.number-index l.numbers)
