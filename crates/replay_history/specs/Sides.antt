-- The two sides of a comparison: the replay of a circuit, and a recording of it.
use Rattle.std.specs.Prelude.{◌≡◌, ℕ}
use Rattle.design_circuit.specs.Circuit.{job_in}
use Rattle.design_circuit.specs.Handed.{IsReplay}
use Rattle.design_circuit.specs.Job.{Job}
use Rattle.design_circuit.specs.Settled.{IsSettledAt, last_step}
use Rattle.design_circuit.specs.declared.design.Driver.{Driver}
use Rattle.recording_binding.specs.declared.binding.Bound.{Bound}
use Rattle.replay_history.specs.Fault.{BitAgrees, VariableAgrees}
use Rattle.replay_history.specs.declared.sides.Sides.{Sides}

abbrev pub job_beside : Sides → Job
job_beside sides = job_in sides.circuit

-- A driver is settled at the last step of a moment.
abbrev pub SettlesIn : Sides → ℕ → ℕ → Driver → Type 0
SettlesIn sides moment net driver = IsSettledAt (job_beside sides) (last_step (job_beside sides) moment) net driver

-- The history is the replay of the circuit, and the recording has its times.
pub record AreSides (sides : Sides) : Type 0 where
  pub history : IsReplay (job_beside sides) sides.history.now
  pub times : sides.recording.now.times ≡ sides.circuit.stim.now.times

-- The recording agrees with the replay in a moment, in a variable and in a bit of it.
abbrev pub AgreesBeside : Sides → ℕ → Bound → Type 0
AgreesBeside sides moment b = VariableAgrees (job_beside sides) sides.recording.now moment b

abbrev pub BitAgreesBeside : Sides → ℕ → Bound → ℕ → Type 0
BitAgreesBeside sides moment b bit = BitAgrees (job_beside sides) sides.recording.now moment b bit
