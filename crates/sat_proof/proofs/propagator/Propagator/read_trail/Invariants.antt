-- Propagation is under way from the first place that is not read, and none waits.
use Rattle.std.proofs.Common.{◌-◌, ◌≡◌, length, true}
use Rattle.sat_proof.specs.Premises.{all_in}
use Rattle.sat_proof.specs.Guard.{IsPropagating, StaysSafe}
use Rattle.sat_proof.specs.Watch.{IsLaced}
use Rattle.sat_proof.proofs.propagator.Propagator.read_trail.Given as goal

abbrev pub invariant-loop-self : goal.invariant-loop-self
invariant-loop-self l = record {
  tracing : IsPropagating l.initial.self.trail l.self.trail l.self.watch (all_in l.clauses) l.self.trail.read (λ _. ⊥);
  laced : IsLaced l.self.watch (all_in l.clauses) 0 0;
  stays : StaysSafe l.initial.self.watch l.self.watch l.initial.self.trail.marks.items (all_in l.clauses);
  on : l.self.watch.on ≡ true;
}

abbrev pub decreases-loop-self : goal.decreases-loop-self
decreases-loop-self l = length l.self.trail.marks.items - l.self.trail.read
