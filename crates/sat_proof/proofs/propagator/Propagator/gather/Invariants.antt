-- The clauses so far are taken in, and none of them has the literal 0.
use Rattle.std.proofs.Common.{◌≡◌, take, true}
use Rattle.std.specs.List.{All}
use Rattle.sat_proof.specs.Assignment.{HasNoZero}
use Rattle.sat_proof.specs.Guard.{IsPropagating}
use Rattle.sat_proof.specs.Watch.{IsLaced}
use Rattle.sat_proof.proofs.propagator.Propagator.gather.Given as goal

abbrev pub invariant-loop-n : goal.invariant-loop-n
invariant-loop-n l = record {
  tracing : IsPropagating l.initial.self.trail l.self.trail l.self.watch (take l.n l.query) l.initial.self.trail.read (λ _. ⊥);
  laced : l.self.watch.on ≡ true → IsLaced l.self.watch (take l.n l.query) 0 0;
  no_zero : All HasNoZero (take l.n l.query);
  read : l.self.trail.read ≡ l.initial.self.trail.read;
}
