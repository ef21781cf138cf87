-- The numbers of the places so far have come behind.
use Rattle.std.proofs.Common.{◌≡◌, ◌++◌, map, take}
use Rattle.design_circuit.specs.Circuit.{job_in}
use Rattle.design_circuit.specs.Job.{number_of}
use Rattle.report_blame.proofs.halves.add_numbers.Given as goal

abbrev pub invariant-places : goal.invariant-places
invariant-places l =
    l.numbers.items ≡ l.fn.numbers.items ++ map (number_of (job_in l.circuit)) (take l.place-index l.filling)
