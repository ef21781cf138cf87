-- A code text, and what its names and times are read by.
use Rattle.std.specs.Prelude.{ℕ, List}
use Rattle.design_circuit.specs.Job.{Job, job_of}
use Rattle.design_circuit.specs.declared.circuit.Circuit.{Circuit}
use Rattle.design_circuit.specs.declared.design.Design.{Design}
use Rattle.design_circuit.specs.declared.stim.Stim.{Stim}
use Rattle.recording_binding.specs.Naming.{Texts}

-- The bytes of the text, the design with its order, the times of the moments, and the names of the scope.
pub record Code : Type 0 where
  pub text : List ℕ
  pub design : Design
  pub order : List ℕ
  pub stim : Stim
  pub scope : Texts

abbrev pub code : List ℕ → Design → List ℕ → Stim → Texts → Code
code text design order stim scope = record { text = text; design = design; order = order; stim = stim; scope = scope }

-- that of a circuit
abbrev pub code_in : List ℕ → Circuit → Texts → Code
code_in text circuit = code text circuit.design.now circuit.order.now circuit.stim.now

-- its design, order and stimulus as a job
abbrev pub job : Code → Job
job c = job_of c.design c.order c.stim
