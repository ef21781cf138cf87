-- The places so far, and those that are left.
use Rattle.std.proofs.Common.{◌≡◌, ◌<◌, ◌++◌, map, reverse, vec_len}
use Rattle.std.specs.List.{AllByRecursion}
use Rattle.design_circuit.specs.Circuit.{job_in}
use Rattle.design_circuit.specs.Fits.{place_at}
use Rattle.design_circuit.specs.Job.{places_of}
use Rattle.decide_cone.proofs.outside.places_back.Given as goal

abbrev pub invariant-rest : goal.invariant-rest
invariant-rest l = record {
  whole : l.places.items ++ map (place_at (job_in l.circuit)) (reverse l.numbers.items)
      ≡ map (place_at (job_in l.circuit)) (reverse l.initial.numbers.items);
  within : AllByRecursion (λ k. k < places_of (job_in l.circuit)) l.numbers.items;
}

abbrev pub decreases-rest : goal.decreases-rest
decreases-rest l = vec_len l.numbers
