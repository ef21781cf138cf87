-- Waveforms, and when one is exact.
use Rattle.std.specs.Prelude.{◌≡◌, ℕ, ◌<◌, Bool, true, false, List, length, slice_index_or}
use Rattle.design_cell.specs.declared.value.Value.{Value}
use Rattle.design_cell.specs.declared.value.Value.TheVariants.{Zero, One, X, Z}
use Rattle.design_cell.specs.Value.{IsKnown}
use Rattle.design_circuit.specs.Job.{Job}
use Rattle.design_circuit.specs.Filling.{IsFilling, bit_of}
use Rattle.design_circuit.specs.Replay.{shown_at}
use Rattle.design_circuit.specs.World.{world_bit}
use Rattle.design_circuit.specs.declared.place.Place.{Place}
pub use Rattle.design_circuit.specs.declared.waveform.Written.{Written}
use Rattle.design_circuit.specs.declared.waveform.Mark.{Mark}
use Rattle.design_circuit.specs.declared.waveform.Mark.TheVariants.{Certain, Unknown, Undecided}

-- A waveform is a list of a value and a mark for each place, in place order.
abbrev pub unwritten : Written
unwritten = record { value = X; mark = Unknown }

abbrev pub written_at : List Written → ℕ → Written
written_at waveform place = slice_index_or waveform place unwritten

abbrev pub certain_by : Mark → Value → Value
certain_by Certain value = value
certain_by Unknown value = X
certain_by Undecided value = X

-- The certain value of a place is its value where it is certain, else x.
unfoldable pub certain : List Written → ℕ → Value
certain waveform place = certain_by (written_at waveform place).mark (written_at waveform place).value

-- The world of every filling gives the bit at the place.
abbrev pub Settles : Job → List Written → ℕ → Bool → Type 0
Settles j waveform place bit =
    (filling : List Place) → IsFilling j filling → world_bit j (certain waveform) (bit_of j filling) place ≡ bit

-- Two fillings, the first for 0 and the second for 1.
pub record Stated : Type 0 where
  pub zero : List Place
  pub one : List Place

-- Their worlds give 0 and 1 at a place.
pub record GivesBoth (j : Job) (waveform : List Written) (place : ℕ) (stated : Stated) : Type 0 where
  pub zero_filling : IsFilling j stated.zero
  pub one_filling : IsFilling j stated.one
  pub gives_zero : world_bit j (certain waveform) (bit_of j stated.zero) place ≡ false
  pub gives_one : world_bit j (certain waveform) (bit_of j stated.one) place ≡ true

-- A place has a pair where some two fillings give it both bits.
pub record HasPair (j : Job) (waveform : List Written) (place : ℕ) : Type 0 where
  pub pair : Stated
  pub gives : GivesBoth j waveform place pair

-- A certain place is 0 or 1, and every filling gives it; of an unknown and of an undecided place holds what is given.
abbrev pub MarkHolds : Job → List Written → ℕ → Type 0 → Type 0 → Mark → Value → Type 0
MarkHolds j waveform place unknown undecided Certain Zero = Settles j waveform place false
MarkHolds j waveform place unknown undecided Certain One = Settles j waveform place true
MarkHolds j waveform place unknown undecided Certain X = ⊥
MarkHolds j waveform place unknown undecided Certain Z = ⊥
MarkHolds j waveform place unknown undecided Unknown value = unknown
MarkHolds j waveform place unknown undecided Undecided value = undecided

-- A place is exact where it has a pair if it is unknown, and isn't undecided.
abbrev pub ExactBy : Job → List Written → ℕ → Mark → Value → Type 0
ExactBy j waveform place mark value = MarkHolds j waveform place (HasPair j waveform place) ⊥ mark value

abbrev pub IsExactAt : Job → List Written → ℕ → Type 0
IsExactAt j waveform place = ExactBy j waveform place (written_at waveform place).mark (written_at waveform place).value

-- A waveform is exact where each of its places is.
abbrev pub IsExact : Job → List Written → Type 0
IsExact j waveform = (place : ℕ) → place < length waveform → IsExactAt j waveform place

-- What a history shows stands in a waveform: a place that the history knows has its value, an uncertain place shows
-- what the history shows, and no unknown place is known to it.
pub record Shows (shown : ℕ → Value) (waveform : List Written) : Type 0 where
  pub known : (place : ℕ) → place < length waveform → IsKnown (shown place) → (written_at waveform place).value
      ≡ shown place
  pub uncertain : (place : ℕ) → place < length waveform → ((written_at waveform place).mark ≡ Certain → ⊥)
      → (written_at waveform place).value ≡ shown place
  pub open_ : (place : ℕ) → place < length waveform → (written_at waveform place).mark ≡ Unknown → IsKnown (shown place)
      → ⊥

abbrev pub ShowsReplay : Job → List Written → Type 0
ShowsReplay j waveform = Shows (shown_at j) waveform
