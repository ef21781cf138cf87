-- The places so far ascend.
use Rattle.std.proofs.Common.{ℕ, ◌+◌, ◌<◌, map}
use Rattle.std.specs.Prelude.{slice_index}
use Rattle.design_circuit.specs.Circuit.{job_in}
use Rattle.design_circuit.specs.Job.{number_of}
use Rattle.design_circuit.proofs.filling.ascend.Given as goal

abbrev pub invariant-places : goal.invariant-places
invariant-places l =
    (k : ℕ) → k + 1 < l.index
    → slice_index (map (number_of (job_in l.circuit)) l.places) k < slice_index (map (number_of (job_in l.circuit)) l.places) (k + 1)
