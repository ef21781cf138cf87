-- Holds worked by hand: a register with a set and a reset, a latch, and rows that match one state alone.
use Rattle.std.specs.Prelude.{◌≡◌, ℕ, true, List, [], ◌∷◌, Some}
use Rattle.design_cell.specs.declared.value.Value.{Value}
use Rattle.design_cell.specs.declared.value.Value.TheVariants.{Zero, One, X}
use Rattle.design_cell.specs.declared.symbol.Symbol.{Symbol}
use Rattle.design_cell.specs.declared.symbol.Symbol.TheVariants.{Single}
use Rattle.design_cell.specs.declared.row.RawRow.{RawRow}
use Rattle.design_cell.specs.Table.{Table}
use Rattle.design_cell.specs.Hold.{hold}

-- The row for entries, a state and an output. The letters: 0 (48), 1 (49), - (45), ? (63), * (42), r (114), n (110), x
-- (120).
abbrev pub row : List Symbol → ℕ → ℕ → RawRow
row entries state output = record { entries = entries; state = Some (Single state); output = Single output }

abbrev pub two : ℕ → ℕ → List Symbol
two d ck = Single d ∷ Single ck ∷ []

abbrev pub four : ℕ → ℕ → ℕ → ℕ → List Symbol
four d ck rn sn = Single d ∷ Single ck ∷ Single rn ∷ Single sn ∷ []

-- A register on the edge of ck that is reset where rn is 0, and else set where sn is 0.
-- ? ? 0 ? : ? : 0; ? ? 1 0 : ? : 1; 0 r 1 1 : ? : 0; 1 r 1 1 : ? : 1; ? n 1 1 : ? : -; * ? 1 1 : ? : -
abbrev pub flop : Table
flop = record {
  sequential = true;
  inputs = 4;
  start = X;
  rows =
      row (four 63 63 48 63) 63 48 ∷ row (four 63 63 49 48) 63 49 ∷ row (four 48 114 49 49) 63 48
      ∷ row (four 49 114 49 49) 63 49 ∷ row (four 63 110 49 49) 63 45 ∷ row (four 42 63 49 49) 63 45 ∷ [];
}

abbrev pub flop_at : Value → Value → Value
flop_at rn sn = hold flop (X ∷ X ∷ rn ∷ sn ∷ [])

-- An active reset holds it at 0, whatever the other pins are, and an active set at 1 where the reset is known not to be
-- active. Neither an inactive set and reset nor an unknown reset hold it.
pub record FlopHolds : Type 0 where
  pub reset : flop_at Zero X ≡ Zero
  pub set : flop_at One Zero ≡ One
  pub neither : flop_at One One ≡ X
  pub unknown_reset : flop_at X Zero ≡ X

-- A latch that is open while ck is 0. 0 0 : ? : 0; 1 0 : ? : 1; ? 1 : ? : -
abbrev pub latch : Table
latch = record {
  sequential = true;
  inputs = 2;
  start = X;
  rows =
      row (two 48 48) 63 48 ∷ row (two 49 48) 63 49 ∷ row (two 63 49) 63 45 ∷ [];
}

-- Open, it is held at its data where that is known. Closed, it gives its state, which differs.
pub record LatchHolds : Type 0 where
  pub open_at_zero : hold latch (Zero ∷ Zero ∷ []) ≡ Zero
  pub open_at_one : hold latch (One ∷ Zero ∷ []) ≡ One
  pub open_unknown : hold latch (X ∷ Zero ∷ []) ≡ X
  pub closed : hold latch (One ∷ One ∷ []) ≡ X

-- Rows for single states. 0 0 : 0 : 0; 1 0 : 0 : 1; 1 0 : 1 : -; 0 1 : 0 : x; 0 1 : 1 : x
abbrev pub stateful : Table
stateful = record {
  sequential = true;
  inputs = 2;
  start = X;
  rows =
      row (two 48 48) 48 48 ∷ row (two 49 48) 48 49 ∷ row (two 49 48) 49 45 ∷ row (two 48 49) 48 120
      ∷ row (two 48 49) 49 120 ∷ [];
}

-- A row that matches one state alone doesn't hold it, two that give the same bit do, a '-' among them, and x is no bit.
pub record StatefulHolds : Type 0 where
  pub one_state : hold stateful (Zero ∷ Zero ∷ []) ≡ X
  pub kept_state : hold stateful (One ∷ Zero ∷ []) ≡ One
  pub to_x : hold stateful (Zero ∷ One ∷ []) ≡ X
