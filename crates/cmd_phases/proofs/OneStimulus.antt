-- A text is recorded of a design in one way, since a recording whose variables are bound has one stimulus.
use Rattle.std.proofs.Common.{◌≡◌, ℕ, List, sym, subst}
use Rattle.std.specs.Prelude.{Ok}
use Rattle.design_circuit.specs.declared.design.Design.{Design}
use Rattle.recording_binding.specs.JobDesign.{holder_by, job_design}
use Rattle.recording_binding.specs.declared.binding.Binding.{Binding}
use Rattle.recording_binding.proofs.Stimuli.{same_stim}
use Rattle.recording_reader.specs.Recording.{Recording}
use Rattle.cmd_job.specs.Recorded.{IsJobStim, IsRecorded}
use Rattle.cmd_job.specs.declared.recorded.Recorded.{Recorded}
use Rattle.cmd_job.specs.declared.rules.Rules.{Rules}
use Rattle.cmd_job.proofs.OneRecording.{one_recording}

module _ (text : List ℕ) (design : Design) (scope : List (List ℕ)) (rounds most : ℕ) (rules : Rules) (a b : Recorded)
    (first : IsRecorded text design scope rounds most rules a) (second : IsRecorded text design scope rounds most rules b) where
  parts : (a.recording ≡ b.recording) × (a.binding ≡ b.binding)
  parts = one_recording text design scope rounds most rules (Ok a) (Ok b) first second

  pub one_said : a.recording ≡ b.recording
  one_said = parts.0

  pub one_binding : a.binding ≡ b.binding
  one_binding = parts.1

  seconds_stim : IsJobStim design a.recording a.binding rounds rules b.stim
  seconds_stim =
      let said = subst (λ (x : Recording). IsJobStim design x b.binding rounds rules b.stim) (sym one_said) second.stim in
      subst (λ (x : Binding). IsJobStim design a.recording x rounds rules b.stim) (sym one_binding) said

  pub one_stim : a.stim ≡ b.stim
  one_stim = same_stim (job_design rules.undriven design a.binding.bound) a.recording
      (holder_by rules.undriven design a.binding.bound) rounds rules.registers a.stim b.stim first.stim seconds_stim
