-- The faults of a recording beside the replay of its inputs: by moment, unsettled registers before values that differ.
use Rattle.std.specs.Prelude.{◌≡◌, ◌⊎◌, ℕ, ◌+◌, ◌<◌, Err, None, Result, [], All, IsOk, length, slice_index}
use Rattle.std.specs.Prelude.{slice_index_or}
use Rattle.design_cell.specs.declared.value.Value.{Value}
use Rattle.design_cell.specs.declared.value.Value.TheVariants.{X}
use Rattle.design_circuit.specs.Job.{Job, at}
use Rattle.design_circuit.specs.Order.{position_of}
use Rattle.design_circuit.specs.Register.{updated}
use Rattle.design_circuit.specs.Replay.{shown_at, kept_at}
use Rattle.design_circuit.specs.Settled.{last_step, IsSettledAt, IsSettled}
use Rattle.design_circuit.specs.declared.design.Driver.{Driver}
use Rattle.design_circuit.specs.declared.design.Driver.TheVariants.{Input, Undriven, Constant, Copy, Cell, Register}
use Rattle.recording_binding.specs.declared.binding.Binding.{Binding}
use Rattle.recording_binding.specs.declared.binding.Bound.{Bound}
use Rattle.recording_reader.specs.Recording.{Recording, value_at}
use Rattle.replay_history.specs.declared.differ.Differ.{Differ}
use Rattle.replay_history.specs.declared.differ.Differ.TheVariants.{Unsettled, Disagrees}
use Rattle.replay_history.specs.declared.differ.DifferErr.{DifferErr}
use Rattle.replay_history.specs.declared.differ.DifferErr.TheVariants.{Differs, Memory}

-- What the update after a step gives for a net. Only a register is ever updated.
abbrev pub kept_after : Job → ℕ → ℕ → Driver → Value
kept_after j step net Input = X
kept_after j step net Undriven = X
kept_after j step net (Constant bit) = X
kept_after j step net (Copy argument) = X
kept_after j step net (Cell table pins) = X
kept_after j step net (Register latching) = updated j (shown_at j) (kept_at j (at j step net)) (step + 1) latching

-- what the replay shows of a bit of a bound variable at the last step of a moment
abbrev pub shown_bit : Job → ℕ → Bound → ℕ → Value
shown_bit j moment b bit = shown_at j (at j (last_step j moment) (slice_index b.bits bit))

-- The recording has for the bit what the replay shows there, all four values told apart.
abbrev pub BitAgrees : Job → Recording → ℕ → Bound → ℕ → Type 0
BitAgrees j recording moment b bit = value_at recording b.variable bit moment ≡ shown_bit j moment b bit

-- A bound variable agrees in a moment where each of its bits does.
abbrev pub VariableAgrees : Job → Recording → ℕ → Bound → Type 0
VariableAgrees j recording moment b = (bit : ℕ) → bit < length b.bits → BitAgrees j recording moment b bit

-- The recording agrees in a moment where each bound variable does.
abbrev pub Agrees : Job → Recording → Binding → ℕ → Type 0
Agrees j recording binding moment = All (VariableAgrees j recording moment) binding.bound

-- A moment has no fault where it is settled and the recording agrees.
pub record HasNoFault (j : Job) (recording : Recording) (binding : Binding) (moment : ℕ) : Type 0 where
  pub settled : IsSettled j moment
  pub agrees : Agrees j recording binding moment

-- No moment has a fault.
abbrev pub IsFaultless : Job → Recording → Binding → Type 0
IsFaultless j recording binding = (moment : ℕ) → moment < j.moments → HasNoFault j recording binding moment

-- The net isn't settled in a moment, with the value that it keeps there and the one that the update gives.
pub record Unsettles (j : Job) (moment net : ℕ) (driver : Driver) (kept next : Value) : Type 0 where
  pub unsettled : IsSettledAt j (last_step j moment) net driver → ⊥
  pub kept_is : kept ≡ kept_at j (at j (last_step j moment) net)
  pub next_is : next ≡ kept_after j (last_step j moment) net driver

-- It is the first in the order that isn't.
pub record IsFirstUnsettled (j : Job) (moment net : ℕ) (kept next : Value) : Type 0 where
  pub within : net < j.width
  pub before : (other : ℕ) → other < j.width → position_of j.order other < position_of j.order net
      → IsSettledAt j (last_step j moment) other (j.driver other)
  pub unsettles : Unsettles j moment net (j.driver net) kept next

-- The bit doesn't agree, with the value recorded and the one replayed.
pub record BitDiffers (j : Job) (recording : Recording) (moment : ℕ) (b : Bound) (bit : ℕ)
    (recorded replayed : Value) : Type 0 where
  pub recorded_is : recorded ≡ value_at recording b.variable bit moment
  pub replayed_is : replayed ≡ shown_bit j moment b bit
  pub differs : BitAgrees j recording moment b bit → ⊥

-- It is the first of the variable's that doesn't.
pub record IsFirstBit (j : Job) (recording : Recording) (moment : ℕ) (b : Bound) (bit : ℕ)
    (recorded replayed : Value) : Type 0 where
  pub within : bit < length b.bits
  pub before : (other : ℕ) → other < bit → BitAgrees j recording moment b other
  pub differs : BitDiffers j recording moment b bit recorded replayed

abbrev pub no_variable : Bound
no_variable = record { variable = 0; bits = []; path = []; range = None }

abbrev pub bound_at : Binding → ℕ → Bound
bound_at binding place = slice_index_or binding.bound place no_variable

-- In a moment the variable is the first bound one that doesn't agree, and the bit its first.
pub record IsFirstDisagreement (j : Job) (recording : Recording) (binding : Binding) (moment variable bit : ℕ)
    (recorded replayed : Value) : Type 0 where
  pub place : ℕ
  pub within : place < length binding.bound
  pub before : (other : ℕ) → other < place → VariableAgrees j recording moment (bound_at binding other)
  pub variable_is : (bound_at binding place).variable ≡ variable
  pub first : IsFirstBit j recording moment (bound_at binding place) bit recorded replayed

-- What a fault says is so in its moment: the first unsettled register, or the first disagreement where the moment is
-- settled.
abbrev pub IsFault : Job → Recording → Binding → Differ → Type 0
IsFault j recording binding (Unsettled net moment kept next) = IsFirstUnsettled j moment net kept next
IsFault j recording binding (Disagrees variable bit moment recorded replayed) =
    IsSettled j moment × IsFirstDisagreement j recording binding moment variable bit recorded replayed

abbrev pub moment_of : Differ → ℕ
moment_of (Unsettled net moment kept next) = moment
moment_of (Disagrees variable bit moment recorded replayed) = moment

-- The first fault: what it says is so, in a moment of the job, and no moment before has a fault.
pub record IsFirstFault (j : Job) (recording : Recording) (binding : Binding) (differ : Differ) : Type 0 where
  pub within : moment_of differ < j.moments
  pub before : (moment : ℕ) → moment < moment_of differ → HasNoFault j recording binding moment
  pub fault : IsFault j recording binding differ

-- A fault of the moment.
pub record IsFaultIn (j : Job) (recording : Recording) (binding : Binding) (moment : ℕ) (differ : Differ) : Type 0 where
  pub moment_is : moment_of differ ≡ moment
  pub fault : IsFault j recording binding differ

-- The fault is that the net isn't settled in the moment.
abbrev pub IsUnsettledAt : Job → ℕ → ℕ → Driver → Differ → Type 0
IsUnsettledAt j moment net driver (Unsettled other when kept next) =
    (other ≡ net) × (when ≡ moment) × Unsettles j moment net driver kept next
IsUnsettledAt j moment net driver (Disagrees variable bit when recorded replayed) = ⊥

-- The fault is the first net that isn't.
abbrev pub IsUnsettledIn : Job → ℕ → Differ → Type 0
IsUnsettledIn j moment (Unsettled net when kept next) = (when ≡ moment) × IsFirstUnsettled j moment net kept next
IsUnsettledIn j moment (Disagrees variable bit when recorded replayed) = ⊥

-- The fault is that the bit doesn't agree in the moment.
abbrev pub IsBitFault : Job → Recording → ℕ → Bound → ℕ → Differ → Type 0
IsBitFault j recording moment b bit (Unsettled net when kept next) = ⊥
IsBitFault j recording moment b bit (Disagrees variable other when recorded replayed) =
    (variable ≡ b.variable) × (other ≡ bit) × (when ≡ moment) × BitDiffers j recording moment b bit recorded replayed

-- The fault is the first bit that doesn't.
abbrev pub IsVariableFault : Job → Recording → ℕ → Bound → Differ → Type 0
IsVariableFault j recording moment b (Unsettled net when kept next) = ⊥
IsVariableFault j recording moment b (Disagrees variable bit when recorded replayed) =
    (variable ≡ b.variable) × (when ≡ moment) × IsFirstBit j recording moment b bit recorded replayed

-- The fault is that of the first variable that doesn't agree.
abbrev pub IsDisagreementIn : Job → Recording → Binding → ℕ → Differ → Type 0
IsDisagreementIn j recording binding moment (Unsettled net when kept next) = ⊥
IsDisagreementIn j recording binding moment (Disagrees variable bit when recorded replayed) =
    (when ≡ moment) × IsFirstDisagreement j recording binding moment variable bit recorded replayed

-- An error that is a fault is of this kind.
abbrev pub IfDiffers : (Differ → Type 0) → DifferErr → Type 0
IfDiffers P (Differs differ) = P differ
IfDiffers P Memory = Unit {0}

-- The answer is that there is no fault where there is none, unless memory ran out.
abbrev pub TellsFaultless : Job → Recording → Binding → Result (Unit {0}) DifferErr → Type 0
TellsFaultless j recording binding result = IsFaultless j recording binding → IsOk result ⊎ (result ≡ Err Memory)

-- The answer is each first fault that there is, unless memory ran out.
abbrev pub TellsFirst : Job → Recording → Binding → Result (Unit {0}) DifferErr → Type 0
TellsFirst j recording binding result = (differ : Differ) → IsFirstFault j recording binding differ
    → (result ≡ Err (Differs differ)) ⊎ (result ≡ Err Memory)
