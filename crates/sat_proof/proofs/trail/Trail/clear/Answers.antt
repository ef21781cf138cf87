-- A trail with no mark is in step.
use Rattle.std.proofs.Common.{arith}
use Rattle.std.proofs.lemmas.Grind.{common_steps}
use Rattle.sat_proof.proofs.Trails.{step_clear}
use Rattle.sat_proof.proofs.trail.Trail.clear.Goals as goal

pub invariant_of-self : goal.invariant_of-self
invariant_of-self c = record { in_step = step_clear _ _ (grind (arith, common_steps, c.args.self.now.in_step.sized)) (λ k. grind (arith, common_steps)) }
