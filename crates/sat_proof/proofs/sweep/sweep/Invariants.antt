-- Passes only let the marks grow, and each that goes on leaves fewer literals unmarked.
use Rattle.std.proofs.Common.{◌-◌, length}
use Rattle.sat_proof.specs.Premises.{all_in}
use Rattle.sat_proof.specs.Propagation.{IsGrowth}
use Rattle.sat_proof.specs.Trail.{StaysOver}
use Rattle.sat_proof.proofs.sweep.sweep.Given as goal

abbrev pub invariant-rounds : goal.invariant-rounds
invariant-rounds l = record {
  growth : IsGrowth l.initial.trail.marks.items l.trail.marks.items (all_in l.clauses);
  over : StaysOver l.initial.trail l.trail;
}

abbrev pub decreases-rounds : goal.decreases-rounds
decreases-rounds l = length l.trail.marks.items - l.trail.len
