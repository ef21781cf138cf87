-- The four values. At a pin z counts as x (IEEE 1364-2005, clause 7).
use Rattle.std.specs.Prelude.{ℕ, Bool, true, false}
use Rattle.design_cell.specs.declared.value.Value.{Value}
use Rattle.design_cell.specs.declared.value.Value.TheVariants.{Zero, One, X, Z}

-- A value is known where it is 0 or 1.
abbrev pub IsKnown : Value → Type 0
IsKnown Zero = Unit {0}
IsKnown One = Unit {0}
IsKnown X = ⊥
IsKnown Z = ⊥

abbrev pub is_zero : Value → Bool
is_zero Zero = true
is_zero One = false
is_zero X = false
is_zero Z = false

abbrev pub is_one : Value → Bool
is_one Zero = false
is_one One = true
is_one X = false
is_one Z = false

abbrev pub is_unknown : Value → Bool
is_unknown Zero = false
is_unknown One = false
is_unknown X = true
is_unknown Z = true

-- What a pin reads: x for z.
abbrev pub read : Value → Value
read Zero = Zero
read One = One
read X = X
read Z = X

-- 1 for 0, 0 for 1, else x
abbrev pub complement_of : Value → Value
complement_of Zero = One
complement_of One = Zero
complement_of X = X
complement_of Z = X

abbrev pub bit_value : Bool → Value
bit_value false = Zero
bit_value true = One

-- the byte that stands for a value
abbrev pub letter_of : Value → ℕ
letter_of Zero = 48
letter_of One = 49
letter_of X = 120
letter_of Z = 122
