-- The entries that are left of the loose chain still wait.
use Rattle.std.proofs.Common.{◌≡◌, true}
use Rattle.sat_proof.specs.Premises.{all_in}
use Rattle.sat_proof.specs.Guard.{IsPropagating, StaysSafe}
use Rattle.sat_proof.specs.Watch.{IsLaced, Leads}
use Rattle.sat_proof.proofs.propagator.Propagator.visit_chain.Given as goal

abbrev pub invariant-loop-left : goal.invariant-loop-left
invariant-loop-left l = record {
  tracing : IsPropagating l.initial.self.trail l.self.trail l.self.watch (all_in l.clauses) l.initial.self.trail.read (λ e. Leads l.self.watch.nexts.items e l.at);
  laced : IsLaced l.self.watch (all_in l.clauses) l.at l.left;
  stays : StaysSafe l.initial.self.watch l.self.watch l.initial.self.trail.marks.items (all_in l.clauses);
  read : l.self.trail.read ≡ l.initial.self.trail.read;
  on : l.self.watch.on ≡ true;
}

abbrev pub decreases-loop-left : goal.decreases-loop-left
decreases-loop-left l = l.left
