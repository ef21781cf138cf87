-- The numbers so far.
use Rattle.std.proofs.Common.{◌≡◌, map, take}
use Rattle.design_circuit.specs.Circuit.{job_in}
use Rattle.design_circuit.specs.Job.{number_of}
use Rattle.cert_condition.proofs.query.numbers_of.Given as goal

abbrev pub invariant-places : goal.invariant-places
invariant-places l = l.numbers.items ≡ map (number_of (job_in l.circuit)) (take l.place-index l.places)
