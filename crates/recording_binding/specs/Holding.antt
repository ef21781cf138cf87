-- Which bound variable gives the value of a net.
use Rattle.std.specs.Prelude.{◌≡◌, ◌<◌, ◌≤◌, ◌^◌, ◌==◌, ℕ, List, [], ◌∷◌, Option, None, Some, All, length, option_map}
use Rattle.std.specs.Prelude.{slice_index_or, if◌then◌else◌}
use Rattle.std.specs.List.{position_from}
use Rattle.design_circuit.specs.Job.{driver_in}
use Rattle.design_circuit.specs.declared.design.Design.{Design}
use Rattle.design_circuit.specs.declared.design.Driver.TheVariants.{Input}
use Rattle.recording_reader.specs.Recording.{Recording, width_at}
use Rattle.recording_binding.specs.declared.binding.Bound.{Bound}
use Rattle.recording_binding.specs.declared.inputs.Holder.{Holder}

-- the bit of a variable that is this net
abbrev pub holder_in : ℕ → List ℕ → ℕ → Option Holder
holder_in variable bits net =
    option_map (λ bit. record { variable = variable; bit = bit }) (position_from (λ own. own == net) 0 bits)

abbrev pub or_next : Option Holder → Option Holder → Option Holder
or_next None next = next
or_next (Some holder) next = Some holder

-- what a bit gives to the nets: itself to its own
abbrev pub given_at : ℕ → Holder → ℕ → Option Holder
given_at own holder net = if own == net then Some holder else None

-- The first bound variable that has the net among its bits holds it.
abbrev pub holder_of : List Bound → ℕ → Option Holder
holder_of [] net = None
holder_of (b ∷ bs) net = or_next (holder_in b.variable b.bits net) (holder_of bs net)

-- A net that is an input and no bit of a bound variable.
pub record IsUnbound (design : Design) (bound : List Bound) (net : ℕ) : Type 0 where
  pub known : net < length design.nets
  pub input : driver_in design net ≡ Input
  pub free : holder_of bound net ≡ None

-- for each net of the design what holds it
pub record HoldsBy (holder : ℕ → Option Holder) (design : Design) (holders : List (Option Holder)) : Type 0 where
  pub as_many : length holders ≡ length design.nets
  pub each : (net : ℕ) → net < length design.nets → slice_index_or holders net None ≡ holder net

-- so by the first bound variable that has it
abbrev pub Holds : Design → List Bound → List (Option Holder) → Type 0
Holds design bound holders = HoldsBy (holder_of bound) design holders

-- what a list has for a net
abbrev pub held_in : List (Option Holder) → ℕ → Option Holder
held_in holders net = slice_index_or holders net None

-- A bound variable has at most 2^20 bits, each a net of the design.
pub record FitsHeld (design : Design) (b : Bound) : Type 0 where
  pub nets : All (λ net. net < length design.nets) b.bits
  pub few : length b.bits ≤ 2 ^ 20

-- the bit of a variable of the recording
pub record IsHolder (recording : Recording) (holder : Holder) : Type 0 where
  pub known : holder.variable < length recording.variables
  pub within : holder.bit < width_at recording holder.variable

-- A net is given to a holder, and nets that are held already stay.
abbrev pub GivesNet : List (Option Holder) → List (Option Holder) → ℕ → Holder → Type 0
GivesNet old new own holder =
    (net : ℕ) → slice_index_or new net None ≡ or_next (slice_index_or old net None) (given_at own holder net)

-- The bits of a variable are given to it, and nets that are held already stay.
abbrev pub GivesBits : List (Option Holder) → List (Option Holder) → ℕ → List ℕ → Type 0
GivesBits old new variable bits =
    (net : ℕ) → slice_index_or new net None ≡ or_next (slice_index_or old net None) (holder_in variable bits net)
