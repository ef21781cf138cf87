-- The replay of a circuit under events as it goes on.
use Rattle.std.specs.Prelude.{◌≡◌, ℕ, ◌+◌, ◌*◌, ◌<◌, List, Option, slice_index}
use Rattle.design_cell.specs.declared.value.Value.{Value}
use Rattle.design_circuit.specs.Circuit.{job_in}
use Rattle.design_circuit.specs.declared.circuit.Circuit.{Circuit}
use Rattle.design_circuit.specs.declared.force.Event.{Event}
use Rattle.design_circuit.specs.Force.{forced_by}
use Rattle.design_circuit.specs.Handed.{IsReplayUnder, held_of}
use Rattle.design_circuit.specs.History.{HistoryView}
use Rattle.design_circuit.specs.Job.{Job}
use Rattle.replay_history.specs.declared.step.Step.{Step}
use Rattle.replay_history.specs.Filled.{IsFilled}
use Rattle.replay_history.specs.Still.{IsStillAt}
use Rattle.replay_history.specs.Sweep.{AreAhead, AreAwaited, AreDue, IsSwept}

-- The history is the replay of the circuit under the events.
abbrev pub IsReplayIn : Circuit → List Event → HistoryView → Type 0
IsReplayIn circuit events history = IsReplayUnder (job_in circuit) (forced_by (job_in circuit) events) history

-- the job of a step's circuit, and to which values places are forced in it
abbrev pub job_at : Step → Job
job_at s = job_in s.circuit.now

abbrev pub forced_in : Step → ℕ → Option Value
forced_in s = forced_by (job_at s) s.events.now

-- A history has the replay of the steps before, of the first positions of the step too, of one position more, and of
-- the whole step.
abbrev pub FilledBefore : Step → HistoryView → Type 0
FilledBefore s history = IsFilled (job_at s) (forced_in s) (s.number * (job_at s).width) history

abbrev pub FilledTo : Step → ℕ → HistoryView → Type 0
FilledTo s position history = IsFilled (job_at s) (forced_in s) (s.number * (job_at s).width + position) history

abbrev pub FilledWith : Step → ℕ → HistoryView → Type 0
FilledWith s position history = IsFilled (job_at s) (forced_in s) (s.number * (job_at s).width + position + 1) history

abbrev pub FilledAfter : Step → HistoryView → Type 0
FilledAfter s history = IsFilled (job_at s) (forced_in s) ((s.number + 1) * (job_at s).width) history

-- Each place of the step but that of a position has what it had.
abbrev pub KeepsOthers : Step → ℕ → HistoryView → HistoryView → Type 0
KeepsOthers s position old new = (p : ℕ) → p < (job_at s).width → (p ≡ position → ⊥)
    → held_of (job_at s) new (s.number * (job_at s).width + p)
    ≡ held_of (job_at s) old (s.number * (job_at s).width + p)

-- The step is gone over up to a position.
abbrev pub SweptTo : Step → ℕ → HistoryView → Type 0
SweptTo s position history = IsSwept (job_at s) (forced_in s) s.number position history

abbrev pub DueFrom : Step → ℕ → List ℕ → Type 0
DueFrom s position due = AreDue (job_at s) (forced_in s) s.number position due

abbrev pub AheadTo : Step → ℕ → List ℕ → Type 0
AheadTo s position ahead = AreAhead (job_at s) (forced_in s) s.number position ahead

-- What waits before the step, and before the next.
abbrev pub AwaitedAt : Step → List ℕ → Type 0
AwaitedAt s due = AreAwaited (job_at s) (forced_in s) s.number due

abbrev pub AwaitedAfter : Step → List ℕ → Type 0
AwaitedAfter s due = AreAwaited (job_at s) (forced_in s) (s.number + 1) due

-- The net at a position is still.
abbrev pub StillAt : Step → ℕ → Type 0
StillAt s position = IsStillAt (job_at s) (forced_in s) s.number (slice_index (job_at s).order position)
