-- Reading as the code does it.
use Rattle.std.specs.Prelude.{◌≡◌, ℕ, ◌+◌, ◌*◌, ◌<◌, ◌≤◌, Bool, Option, None, Some, Result, Ok, Err, List, [], Vec}
use Rattle.std.specs.Prelude.{length, slice_index, if◌then◌else◌}
use Rattle.std.specs.List.Sorted.{IsStrictlyIncreasing}
use Rattle.std.specs.declared.alloc.Global.{Global}
use Rattle.design_circuit.specs.Design.{FitsDesign}
use Rattle.design_circuit.specs.declared.force.Event.{Event}
use Rattle.design_circuit.specs.declared.stim.Stim.{Stim}
use Rattle.replay_history.specs.Forced.{AreOrdered, event_at}
use Rattle.netlist_tokens.specs.declared.token.Token.{Token}
use Rattle.replay_code.specs.Code.{Code}
use Rattle.replay_code.specs.Machine.{Next, Progress}
use Rattle.replay_code.specs.declared.fault.CodeFault.{CodeFault}
use Rattle.replay_code.specs.declared.fault.CodeFault.TheVariants.{Syntax}
use Rattle.replay_code.specs.declared.refusal.CodeErr.{CodeErr}
use Rattle.replay_code.specs.declared.refusal.CodeErr.TheVariants.{Refused, Memory}
use Rattle.replay_code.specs.declared.state.State.{State}
use Rattle.replay_code.specs.declared.state.State.TheVariants.{Bit}

-- The fault is this one; or there is no memory.
abbrev pub RefusesCode : {X : Type 0} → Result X CodeFault → CodeErr → Type 0
RefusesCode wanted (Refused fault) = wanted ≡ Err fault
RefusesCode wanted Memory = Unit {0}

-- The code does a step, or refuses, as it should; or there is no memory.
abbrev pub Steps : Result Next CodeFault → Result State CodeErr → Progress → Type 0
Steps wanted (Ok state) new = wanted ≡ Ok record { state = state; progress = new }
Steps wanted (Err e) new = RefusesCode wanted e

-- one word, and what may stand behind it
abbrev pub Goes : Bool → Token → State → Result State CodeErr → Type 0
Goes is t state result = result ≡ (if is then Ok state else Err (Refused (Syntax t.start)))

-- It answers the events of the statements, or refuses, as it should; or there is no memory.
abbrev pub ReadsEvents : Result (List Event) CodeFault → Result (Vec Event Global) CodeErr → Type 0
ReadsEvents wanted (Ok events) = wanted ≡ Ok events.items
ReadsEvents wanted (Err e) = RefusesCode wanted e

-- The moment is that of the time.
pub record IsMoment (stim : Stim) (time moment : ℕ) : Type 0 where
  pub within : moment < length stim.times
  pub at : slice_index stim.times moment ≡ time

abbrev pub HasMoment : Stim → ℕ → Option ℕ → Type 0
HasMoment stim time None = Unit {0}
HasMoment stim time (Some moment) = IsMoment stim time moment

-- No event stands behind the present step, and before the first moment there is none.
abbrev pub IsUpTo : ℕ → ℕ → Option ℕ → List Event → Type 0
IsUpTo rounds round None events = events ≡ []
IsUpTo rounds round (Some moment) events =
    (i : ℕ) → i < length events → (event_at events i).step ≤ moment * rounds + round

-- The moment is that of the time, the round one of the moment; the events stand at steps that don't fall, up to the
-- present one, and at nets of the design.
pub record IsThere (p : Progress) : Type 0 where
  pub fits : FitsDesign p.code.design
  pub times : IsStrictlyIncreasing p.code.stim.times
  pub moment : HasMoment p.code.stim p.time p.moment
  pub round : p.round < p.code.stim.rounds
  pub ordered : AreOrdered (length p.code.design.nets) p.events
  pub up_to : IsUpTo p.code.stim.rounds p.round p.moment p.events

-- A value that comes next is that of a net of the design.
abbrev pub HasNet : Code → State → Type 0
HasNet code (Bit net) = net < length code.design.nets
HasNet code state = Unit {0}

-- Events stand in order, at nets of the design and steps of the stimulus.
pub record AreStatements (code : Code) (events : List Event) : Type 0 where
  pub ordered : AreOrdered (length code.design.nets) events
  pub steps : (i : ℕ) → i < length events → (event_at events i).step < length code.stim.times * code.stim.rounds
