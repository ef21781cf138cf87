-- What of the places so far passes has come behind.
use Rattle.std.proofs.Common.{◌≡◌, ◌++◌, filter, take}
use Rattle.design_circuit.specs.Circuit.{job_in}
use Rattle.report_blame.specs.Joined.{stands_below}
use Rattle.report_blame.proofs.join.add_below.Given as goal

abbrev pub invariant-places : goal.invariant-places
invariant-places l =
    l.places.items ≡ l.fn.places.items ++ filter (stands_below (job_in l.circuit) l.below) (take l.place-index l.filling)
