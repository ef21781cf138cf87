-- The clauses from n on still wait.
use Rattle.std.proofs.Common.{◌≤◌, ◌≡◌}
use Rattle.sat_proof.specs.Premises.{all_in}
use Rattle.sat_proof.specs.Propagation.{IsRunning}
use Rattle.sat_proof.proofs.sweep.pass_once.Given as goal

abbrev pub invariant-loop-n : goal.invariant-loop-n
invariant-loop-n l = record {
  running : IsRunning l.initial.trail l.trail (all_in l.clauses) l.initial.trail.len (λ n. l.n ≤ n);
  read : l.trail.read ≡ l.initial.trail.read;
}
