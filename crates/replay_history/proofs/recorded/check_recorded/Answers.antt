-- All variables agree in the end.
use Rattle.std.proofs.Common.{length, ap, arith}
use Rattle.std.proofs.lemmas.List.Elements.{All-from_get_or}
use Rattle.replay_history.specs.Fault.{VariableAgrees, no_variable}
use Rattle.replay_history.specs.Sides.{job_beside}
use Rattle.replay_history.proofs.recorded.check_recorded.Goals as goal

pub check_variable-requires-clause-follower : goal.check_variable-requires-clause-follower
check_variable-requires-clause-follower c = rw c.variables.invariant.same c.requires.follower

pub returns-clause-agrees : goal.returns-clause-agrees
returns-clause-agrees c =
    let same = ap length c.as_slice-variable-items.ensures in
    All-from_get_or (VariableAgrees (job_beside c.args.sides.now) c.args.sides.now.recording.now c.args.moment) c.args.bound.now.bound no_variable (λ i less. c.variables.invariant.agree i (omega (arith, same, less)))
