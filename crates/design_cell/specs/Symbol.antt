-- What the symbols of a primitive's table stand for (IEEE 1364-2005, clause 8). Letters may be capitals.
use Rattle.std.specs.Prelude.{ℕ, ◌==◌, ◌&&◌, ◌||◌, Bool, true, false, cond}
use Rattle.design_cell.specs.Value.{read}
use Rattle.design_cell.specs.declared.value.Value.{Value}
use Rattle.design_cell.specs.declared.value.Value.TheVariants.{Zero, One, X, Z}
use Rattle.design_cell.specs.declared.symbol.Symbol.{Symbol}
use Rattle.design_cell.specs.declared.symbol.Symbol.TheVariants.{Single, Change}

-- A level letter stands for values: '0', '1' and 'x' for that value, '?' for 0, 1 or x, 'b' for 0 or 1. z reads as x.
abbrev pub stands : ℕ → Value → Bool
stands c Zero = c == 48 || c == 63 || c == 98 || c == 66
stands c One = c == 49 || c == 63 || c == 98 || c == 66
stands c X = c == 120 || c == 88 || c == 63
stands c Z = c == 120 || c == 88 || c == 63

-- '*' and 'p' stand for (01), (0x) and (x1).
abbrev pub rises : ℕ → Bool
rises c = c == 42 || c == 112 || c == 80

-- '*' and 'n' stand for (10), (1x) and (x0).
abbrev pub falls : ℕ → Bool
falls c = c == 42 || c == 110 || c == 78

-- An edge letter stands for changes: 'r' for (01) and 'f' for (10) beside those of 'p', 'n' and '*'; no letter where
-- old and new are equal (profile).
abbrev pub changes : ℕ → Value → Value → Bool
changes c Zero Zero = false
changes c Zero One = rises c || c == 114 || c == 82
changes c Zero X = rises c
changes c Zero Z = rises c
changes c One Zero = falls c || c == 102 || c == 70
changes c One One = false
changes c One X = falls c
changes c One Z = falls c
changes c X Zero = falls c
changes c X One = rises c
changes c X X = false
changes c X Z = false
changes c Z Zero = falls c
changes c Z One = rises c
changes c Z X = false
changes c Z Z = false

-- Two values differ where '*', any change, stands for the step from one to the other.
abbrev pub differ : Value → Value → Bool
differ old new = changes 42 old new

-- '0', '1', 'x', '?' and 'b'
abbrev pub is_level_letter : ℕ → Bool
is_level_letter c = c == 48 || c == 49 || c == 120 || c == 88 || c == 63 || c == 98 || c == 66

-- '*', 'p', 'n', 'r' and 'f'
abbrev pub is_edge_letter : ℕ → Bool
is_edge_letter c = c == 42 || c == 112 || c == 80 || c == 110 || c == 78 || c == 114 || c == 82 || c == 102 || c == 70

unfoldable pub is_edge : Symbol → Bool
is_edge (Single c) = is_edge_letter c
is_edge (Change a b) = true

abbrev pub is_level : Symbol → Bool
is_level (Single c) = is_level_letter c
is_level (Change a b) = false

-- A symbol fits a column that goes from an old value to a new one: an edge letter by the change, a level letter by the
-- new value, and (vw) where v stands for the old value, w for the new one, and the two differ.
unfoldable pub fits : Symbol → Value → Value → Bool
fits (Single c) old new = cond (is_edge_letter c) (changes c old new) (stands c new)
fits (Change a b) old new = stands a old && stands b new && differ old new

-- An output is 0, 1 or x, and '-' keeps the state.
abbrev pub output_letter : ℕ → Value → Value
output_letter c q = cond (c == 45) (read q) (cond (c == 48) Zero (cond (c == 49) One X))

abbrev pub output_of : Symbol → Value → Value
output_of (Single c) q = output_letter c q
output_of (Change a b) q = X
