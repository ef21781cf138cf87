-- Which pins of a sequential primitive are clock pins (profile).
use Rattle.std.specs.Prelude.{◌≡◌, ◌<◌, ℕ, length, slice_index_or, zero, suc, ◌+◌, ◌==◌, ◌&&◌, ◌^◌, Bool, true, false}
use Rattle.std.specs.Prelude.{cond, List, [], ◌∷◌, ◌++◌, not}
use Rattle.std.specs.Int.{bit_at}
use Rattle.std.specs.List.{list_any}
use Rattle.design_cell.specs.declared.value.Value.{Value}
use Rattle.design_cell.specs.declared.value.Value.TheVariants.{Zero, One, X, Z}
use Rattle.design_cell.specs.Value.{IsKnown, bit_value, complement_of}
use Rattle.design_cell.specs.Table.{Table, level_at, change}
use Rattle.design_cell.specs.Below.{any_below}

-- Bit i of a choice stands for the value of pin i, and the bit behind the last pin's for the state.
abbrev pub chosen : ℕ → ℕ → Bool
chosen choice place = bit_at choice place == 1

-- Bit i of the dead pins stands for pin i.
abbrev pub is_dead : ℕ → ℕ → Bool
is_dead dead pin = bit_at dead pin == 1

-- A dead pin is x, a live one 0 or 1 by the choice.
abbrev pub pin_of : ℕ → ℕ → ℕ → Value
pin_of dead choice pin = cond (is_dead dead pin) X (bit_value (chosen choice pin))

-- the first pins of a choice
abbrev pub pins_of : ℕ → ℕ → ℕ → List Value
pins_of zero dead choice = []
pins_of (suc n) dead choice = pins_of n dead choice ++ pin_of dead choice n ∷ []

-- a known value other than the state
abbrev pub is_known_other : Value → Value → Bool
is_known_other Zero One = true
is_known_other One Zero = true
is_known_other Zero Zero = false
is_known_other Zero X = false
is_known_other Zero Z = false
is_known_other One One = false
is_known_other One X = false
is_known_other One Z = false
is_known_other X q = false
is_known_other Z q = false

-- The pin's change matches no level row and gives a known value other than the state.
abbrev pub acts : Table → List Value → ℕ → Value → Value → Bool
acts table pins pin old q =
    not (list_any (level_at table pins pin old q) table.rows) && is_known_other (change table pins pin old q) q

-- The pin's change to its value of the choice, from the other one of 0 and 1, acts.
unfoldable pub acts_at : Table → ℕ → ℕ → ℕ → Bool
acts_at table dead pin choice =
    acts table (pins_of table.inputs dead choice) pin (bit_value (not (chosen choice pin)))
    (bit_value (chosen choice table.inputs))

-- A pin is a clock pin where it is live and its change acts for some choice of 0 or 1 for every live pin and the state.
unfoldable pub is_clock : Table → ℕ → ℕ → Bool
is_clock table dead pin = not (is_dead dead pin) && any_below (2 ^ (table.inputs + 1)) (acts_at table dead pin)

-- A pin of a choice: x where it is dead, else 0 or 1.
abbrev pub IsChosen : Bool → Value → Type 0
IsChosen true value = value ≡ X
IsChosen false value = IsKnown value

-- The same without numbers: some 0 or 1 for every live pin, with x at the dead ones, and for the state.
pub record IsClock (table : Table) (dead pin : ℕ) : Type 0 where
  pub live : is_dead dead pin ≡ false
  pub pins : List Value
  pub q : Value
  pub long : length pins ≡ table.inputs
  pub choice : (i : ℕ) → i < table.inputs → IsChosen (is_dead dead i) (slice_index_or pins i X)
  pub state : IsKnown q
  pub moves : acts table pins pin (complement_of (slice_index_or pins pin X)) q ≡ true
