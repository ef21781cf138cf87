-- The literals so far are assumed.
use Rattle.std.proofs.Common.{take, ◌≡◌}
use Rattle.sat_proof.specs.Propagation.{AreAssumed}
use Rattle.sat_proof.specs.Trail.{StaysOver}
use Rattle.sat_proof.proofs.assume.assume.Given as goal

abbrev pub invariant-loop-k : goal.invariant-loop-k
invariant-loop-k l = record {
  assumed : AreAssumed l.initial.trail.marks.items l.trail.marks.items (take l.k l.literals);
  over : StaysOver l.initial.trail l.trail;
  read : l.trail.read ≡ l.initial.trail.read;
}
