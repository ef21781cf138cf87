-- One step of the walk: the next place is written, or the walk ends there.
use Rattle.std.specs.Prelude.{◌≡◌, ◌<◌, ◌++◌, ◌∷◌, [], length}
use Rattle.design_circuit.specs.declared.waveform.Written.{Written}
use Rattle.wave_proved.specs.Advance.{IsPlain}
use Rattle.wave_proved.specs.Contents.{Contents, next_seen}
use Rattle.wave_proved.specs.declared.advance.AdvanceErr.{AdvanceErr}
use Rattle.wave_proved.specs.declared.advance.AdvanceErr.TheVariants as stopped
use Rattle.decide_repair.specs.Repaired.{IsObjection, IsOfJob}
use Rattle.decide_repair.specs.declared.refusal.RepairErr.{RepairErr}
use Rattle.decide_repair.specs.declared.refusal.RepairErr.TheVariants.{Optimistic, Memory}

-- One place more is written.
pub record IsNextOf (before after : Contents) : Type 0 where
  pub same : IsOfJob before after
  pub written : Written
  pub is : after.written ≡ before.written ++ written ∷ []

-- There is at least one place more, and the next one is a Line place, if there is one.
pub record IsFurther (before after : Contents) : Type 0 where
  pub same : IsOfJob before after
  pub more : length before.written < length after.written
  pub stops : IsPlain (next_seen after) → ⊥

-- Why the walk ends where a wave doesn't go on.
abbrev pub stopped_by : AdvanceErr → RepairErr
stopped_by (stopped.Optimistic optimistic) = Optimistic optimistic
stopped_by stopped.Memory = Memory

-- The walk ends: at an objection, or for want of memory.
abbrev pub RefusedStep : Contents → RepairErr → Type 0
RefusedStep start (Optimistic optimistic) = IsObjection start optimistic
RefusedStep start Memory = Unit {0}
