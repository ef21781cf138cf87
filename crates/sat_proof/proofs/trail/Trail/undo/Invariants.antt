-- The trail as far as it is taken back.
use Rattle.std.proofs.Common.{◌-◌}
use Rattle.sat_proof.specs.Trail.{IsUndoing}
use Rattle.sat_proof.proofs.trail.Trail.undo.Given as goal

abbrev pub invariant-loop-self : goal.invariant-loop-self
invariant-loop-self l = IsUndoing l.initial.self l.self l.len

abbrev pub decreases-loop-self : goal.decreases-loop-self
decreases-loop-self l = l.self.len - l.len
