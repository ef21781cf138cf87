-- The stimulus of a recording whose variables are bound.
use Rattle.std.specs.Prelude.{◌≡◌, ℕ, ◌<◌, List, [], ◌++◌, ◌∷◌, ◌==◌, zero, suc, if◌then◌else◌, Option, None, Some}
use Rattle.std.specs.Prelude.{length, slice_index_or}
use Rattle.design_cell.specs.Value.{read}
use Rattle.design_cell.specs.declared.value.Value.{Value}
use Rattle.design_cell.specs.declared.value.Value.TheVariants.{X}
use Rattle.design_circuit.specs.Job.{driver_in}
use Rattle.design_circuit.specs.declared.design.Design.{Design}
use Rattle.design_circuit.specs.declared.design.Driver.{Driver}
use Rattle.design_circuit.specs.declared.design.Driver.TheVariants.{Input, Undriven, Constant, Copy, Cell, Register}
use Rattle.design_circuit.specs.declared.stim.RegisterRules.{RegisterRules}
use Rattle.design_circuit.specs.declared.stim.StartRule.{StartRule}
use Rattle.design_circuit.specs.declared.stim.StartRule.TheVariants.{Cold, Recorded}
use Rattle.design_circuit.specs.declared.stim.Stim.{Stim}
use Rattle.recording_reader.specs.Recording.{Recording, value_at}
use Rattle.recording_binding.specs.Holding.{IsHolder, held_in}
use Rattle.recording_binding.specs.declared.inputs.Holder.{Holder}
use Rattle.recording_binding.specs.declared.stimulus.Held.{Held}

-- what is recorded in a moment of the bit that holds a net; without one the value given
abbrev pub held_value : Recording → ℕ → Value → Option Holder → Value
held_value recording moment otherwise None = otherwise
held_value recording moment otherwise (Some holder) = value_at recording holder.variable holder.bit moment

abbrev pub input_by : Recording → ℕ → Value → Option Holder → Driver → Value
input_by recording moment otherwise holder Input = held_value recording moment otherwise holder
input_by recording moment otherwise holder Undriven = otherwise
input_by recording moment otherwise holder (Constant bit) = otherwise
input_by recording moment otherwise holder (Copy argument) = otherwise
input_by recording moment otherwise holder (Cell table pins) = otherwise
input_by recording moment otherwise holder (Register latching) = otherwise

-- An input has in each moment the recorded value of what holds it; any other net has x.
abbrev pub input_value : Design → Recording → (ℕ → Option Holder) → ℕ → ℕ → Value
input_value design recording holder moment net = input_by recording moment X (holder net) (driver_in design net)

-- A register that starts cold starts as the design says; one that is recorded starts with its value at moment 0, z as
-- x, and as the design says where no variable holds it.
abbrev pub start_by : Recording → Option Holder → Value → StartRule → Value
start_by recording holder own Cold = own
start_by recording None own Recorded = own
start_by recording (Some holder) own Recorded = read (value_at recording holder.variable holder.bit 0)

abbrev pub start_of : Recording → Option Holder → StartRule → Driver → Value
start_of recording holder rule Input = X
start_of recording holder rule Undriven = X
start_of recording holder rule (Constant bit) = X
start_of recording holder rule (Copy argument) = X
start_of recording holder rule (Cell table pins) = X
start_of recording holder rule (Register latching) = start_by recording holder latching.start rule

abbrev pub start_value : Design → Recording → (ℕ → Option Holder) → StartRule → ℕ → Value
start_value design recording holder rule net = start_of recording (holder net) rule (driver_in design net)

-- a value for each net
pub record IsRow (design : Design) (value : ℕ → Value) (row : List Value) : Type 0 where
  pub long : length row ≡ length design.nets
  pub values : (net : ℕ) → net < length design.nets → slice_index_or row net X ≡ value net

-- The moments are the recording's, each with a row of values of the inputs by what holds each net, and no row is beside
-- them.
pub record IsStimOf (design : Design) (recording : Recording) (holder : ℕ → Option Holder) (rounds : ℕ)
    (rules : RegisterRules) (stim : Stim) : Type 0 where
  pub times : stim.times ≡ recording.times
  pub as_many : stim.rounds ≡ rounds
  pub ruled : stim.rules ≡ rules
  pub many : length stim.inputs ≡ length recording.times
  pub rows : (moment : ℕ) → moment < length recording.times
      → IsRow design (input_value design recording holder moment) (slice_index_or stim.inputs moment [])
  pub starts : IsRow design (start_value design recording holder rules.start) stim.starts

-- What each net is held by is a bit of a variable of the recording.
pub record AreHolders (recording : Recording) (holders : List (Option Holder)) : Type 0 where
  pub each : (net : ℕ) (holder : Holder) → net < length holders → slice_index_or holders net None ≡ Some holder
      → IsHolder recording holder

-- the same values, by a list of what holds each net
abbrev pub value_by : Design → Recording → List (Option Holder) → ℕ → ℕ → Value
value_by design recording holders moment net = input_value design recording (held_in holders) moment net

abbrev pub start_in : Design → Recording → List (Option Holder) → StartRule → ℕ → Value
start_in design recording holders rule net = start_value design recording (held_in holders) rule net

abbrev pub input_held : ℕ → Holder → Driver → List Held
input_held net holder Input = record { net = net; holder = holder } ∷ []
input_held net holder Undriven = []
input_held net holder (Constant bit) = []
input_held net holder (Copy argument) = []
input_held net holder (Cell table pins) = []
input_held net holder (Register latching) = []

abbrev pub input_at : ℕ → Option Holder → Driver → List Held
input_at net None driver = []
input_at net (Some holder) driver = input_held net holder driver

-- the inputs that a variable holds, among the first so many nets
abbrev pub inputs_below : Design → List (Option Holder) → ℕ → List Held
inputs_below design holders zero = []
inputs_below design holders (suc net) =
    inputs_below design holders net ++ input_at net (slice_index_or holders net None) (driver_in design net)

abbrev pub inputs_of : Design → List (Option Holder) → List Held
inputs_of design holders = inputs_below design holders (length design.nets)

-- a net's value once these inputs have theirs in a moment
abbrev pub set_from : Recording → ℕ → List Held → ℕ → Value → Value
set_from recording moment [] net old = old
set_from recording moment (input ∷ inputs) net old =
    set_from recording moment inputs net
    (if input.net == net then value_at recording input.holder.variable input.holder.bit moment else old)

-- inputs of a design, held by bits of variables of the recording
pub record FitsHolder (recording : Recording) (nets : ℕ) (input : Held) : Type 0 where
  pub net : input.net < nets
  pub holder : IsHolder recording input.holder

-- A row has x at each net that isn't an input, or that no variable holds.
pub record HasOthers (design : Design) (recording : Recording) (holders : List (Option Holder))
    (row : List Value) : Type 0 where
  pub each : (moment net : ℕ) → input_by recording moment (slice_index_or row net X) (slice_index_or holders net None)
      (driver_in design net) ≡ value_by design recording holders moment net

-- These inputs have their values in a moment, and any other net has what it had.
abbrev pub Sets : Recording → ℕ → List Held → List Value → List Value → Type 0
Sets recording moment inputs old new =
    (net : ℕ) → slice_index_or new net X ≡ set_from recording moment inputs net (slice_index_or old net X)

-- a row for each moment
abbrev pub AreRows : Design → Recording → List (Option Holder) → List (List Value) → Type 0
AreRows design recording holders rows = (moment : ℕ) → moment < length recording.times
    → IsRow design (value_by design recording holders moment) (slice_index_or rows moment [])
