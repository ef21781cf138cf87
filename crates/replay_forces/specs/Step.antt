-- What holds at a step as it is gone through. No contract of a public call names these.
use Rattle.std.specs.Prelude.{ℕ, ◌+◌, ◌*◌, List}
use Rattle.design_cell.specs.declared.value.Value.{Value}
use Rattle.design_circuit.specs.Circuit.{job_in}
use Rattle.design_circuit.specs.Job.{Job}
use Rattle.replay_fans.specs.Readings.{AreFans}
use Rattle.replay_history.specs.Forced.{HasForced}
use Rattle.replay_forces.specs.Made.{AreChangesTo, GivenUnlessDue, HasChangesTo, HasForcesTo, RestButFor}
use Rattle.replay_forces.specs.Made.{StatedUnlessDue}
use Rattle.replay_forces.specs.Still.{AreAwaited, AreMarkedTo, looked_on, watched}
use Rattle.replay_forces.specs.declared.given.MadeForces.{MadeForces}
use Rattle.replay_forces.specs.declared.statements.Changes.{Changes}
use Rattle.replay_forces.specs.declared.step.MovingStep.{MovingStep}
use Rattle.replay_forces.specs.declared.step.StatedStep.{StatedStep}

-- ---- statements

-- the job of a step's circuit
abbrev pub stated_job : StatedStep → Job
stated_job s = job_in s.circuit.now

-- Each net is forced as the statements up to the step say.
abbrev pub IsForcedAt : StatedStep → Type 0
IsForcedAt s = HasForced (stated_job s).width s.statements.now s.number s.forced.now

-- Each place of the step whose net no statement names, from one on, up to another, rests; or each that isn't due.
abbrev pub RestsButFor : StatedStep → ℕ → ℕ → Type 0
RestsButFor s from to = RestButFor (stated_job s) s.statements.now from to s.number

abbrev pub RestsUnlessDue : StatedStep → List ℕ → Type 0
RestsUnlessDue s due = StatedUnlessDue (stated_job s) s.statements.now s.number due

-- The changes of the steps before are made, and those of the step too; no position is due.
abbrev pub HasChangesBefore : StatedStep → Changes → Type 0
HasChangesBefore s changes =
    HasChangesTo (stated_job s) s.statements.now (s.number * (stated_job s).width) changes

abbrev pub HasChangesAfter : StatedStep → Changes → Type 0
HasChangesAfter s changes =
    HasChangesTo (stated_job s) s.statements.now ((s.number + 1) * (stated_job s).width) changes

-- The same of what is made alone: of the steps before, of the first positions of the step too, of one position more,
-- and of the whole step.
abbrev pub MadeBefore : StatedStep → Changes → Type 0
MadeBefore s changes = AreChangesTo (stated_job s) s.statements.now (s.number * (stated_job s).width)
    changes.row.items changes.events.items

abbrev pub MadeTo : StatedStep → ℕ → Changes → Type 0
MadeTo s position changes = AreChangesTo (stated_job s) s.statements.now
    (s.number * (stated_job s).width + position) changes.row.items changes.events.items

abbrev pub MadeWith : StatedStep → ℕ → Changes → Type 0
MadeWith s position changes = AreChangesTo (stated_job s) s.statements.now
    (s.number * (stated_job s).width + position + 1) changes.row.items changes.events.items

abbrev pub MadeAfter : StatedStep → Changes → Type 0
MadeAfter s changes = AreChangesTo (stated_job s) s.statements.now ((s.number + 1) * (stated_job s).width)
    changes.row.items changes.events.items

-- ---- values that move

-- the job of a step's circuit
abbrev pub moving_job : MovingStep → Job
moving_job s = job_in s.circuit.now

-- What reads the circuit's nets is known.
abbrev pub HasFans : MovingStep → Type 0
HasFans s = AreFans (moving_job s) s.fans.now

-- Each position is due, or the nets that are watched, or looked back at, from it and stand before a position are still.
abbrev pub WatchedTo : MovingStep → (ℕ → Value) → ℕ → List ℕ → Type 0
WatchedTo s values position due = AreMarkedTo (moving_job s) values (watched (moving_job s)) s.number position due

abbrev pub LookedOnTo : MovingStep → (ℕ → Value) → ℕ → List ℕ → Type 0
LookedOnTo s values position ahead =
    AreMarkedTo (moving_job s) values (looked_on (moving_job s)) s.number position ahead

-- What waits before the step, and before the next.
abbrev pub AwaitedAt : MovingStep → (ℕ → Value) → List ℕ → Type 0
AwaitedAt s values due = AreAwaited (moving_job s) values s.number due

abbrev pub AwaitedAfter : MovingStep → (ℕ → Value) → List ℕ → Type 0
AwaitedAfter s values due = AreAwaited (moving_job s) values (s.number + 1) due

-- Each place of the step is due, or its driver gives what it gave one step before and it is forced as there.
abbrev pub GivenButDue : MovingStep → (ℕ → Value) → List ℕ → Type 0
GivenButDue s values due = GivenUnlessDue (moving_job s) values s.number due

-- The forces of the steps before are made, and those of the step too.
abbrev pub ForcesBefore : MovingStep → (ℕ → Value) → MadeForces → Type 0
ForcesBefore s values made =
    HasForcesTo (moving_job s) values (s.number * (moving_job s).width) made

abbrev pub ForcesAfter : MovingStep → (ℕ → Value) → MadeForces → Type 0
ForcesAfter s values made =
    HasForcesTo (moving_job s) values ((s.number + 1) * (moving_job s).width) made
