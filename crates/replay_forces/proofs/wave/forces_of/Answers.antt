-- The circuit's job is the wave's.
use Rattle.std.proofs.Common.{IfOk, subst}
use Rattle.design_circuit.specs.Circuit.{job_in}
use Rattle.design_circuit.specs.Job.{Job}
use Rattle.wave_proved.specs.Contents.{Contents}
use Rattle.replay_forces.specs.ForcesOf.{AreForcesOf}
use Rattle.replay_forces.specs.Waves.{values_of}
use Rattle.replay_forces.proofs.wave.forces_of.Goals as goal

pub returns : goal.returns
returns c =
    let P : Job → Type 0 = λ j. IfOk c.forces_of_values.result (λ forces. AreForcesOf j (values_of c.args.wave.now) forces) in
    subst P c.circuit.ensures.job
    (subst (λ (w : Contents). IfOk c.forces_of_values.result (λ forces. AreForcesOf (job_in c.circuit.result) (values_of w)
    forces)) c.in_ok-values.ensures c.forces_of_values.ensures)
