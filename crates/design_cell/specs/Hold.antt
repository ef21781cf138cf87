-- At which bit values on the pins of a sequential primitive hold its registers, whatever state they are in: an active
-- set or reset, or an open latch.
use Rattle.std.specs.Prelude.{◌≡◌, ℕ, ◌<◌, Bool, true, List, length}
use Rattle.design_cell.specs.declared.value.Value.{Value}
use Rattle.design_cell.specs.declared.value.Value.TheVariants.{Zero, One, X, Z}
use Rattle.design_cell.specs.declared.row.RawRow.{RawRow}
use Rattle.design_cell.specs.Value.{IsKnown}
use Rattle.design_cell.specs.Symbol.{output_of}
use Rattle.design_cell.specs.Row.{columns, row_at}
use Rattle.design_cell.specs.Table.{Table, level_matches, pick}

-- A level row matches the pins, none of which has just changed, at a state.
abbrev pub matches_level : Table → List Value → Value → RawRow → Bool
matches_level table pins q = level_matches table.inputs (columns pins q) (columns pins q)

-- The output of a level row that matches at a state, else x.
unfoldable pub level_output : Table → List Value → Value → Value
level_output table pins q = pick (matches_level table pins q) q X table.rows

-- The bit that both are, else x.
abbrev pub agreed : Value → Value → Value
agreed Zero Zero = Zero
agreed Zero One = X
agreed Zero X = X
agreed Zero Z = X
agreed One Zero = X
agreed One One = One
agreed One X = X
agreed One Z = X
agreed X other = X
agreed Z other = X

-- The bit at which the pins hold a register: that of the level rows at the state 0 and of those at the state 1. It is x
-- where they hold none.
unfoldable pub hold : Table → List Value → Value
hold table pins = agreed (level_output table pins Zero) (level_output table pins One)

-- A level row matches at a state, and its output, '-' read as the state, is a bit.
pub record GivesByLevel (table : Table) (pins : List Value) (q bit : Value) : Type 0 where
  pub row : ℕ
  pub within : row < length table.rows
  pub here : matches_level table pins q (row_at table.rows row) ≡ true
  pub gives : output_of (row_at table.rows row).output q ≡ bit

-- The same without the order of the rows: some level row gives the bit at the state 0, and some one at the state 1.
pub record HoldsAt (table : Table) (pins : List Value) (bit : Value) : Type 0 where
  pub known : IsKnown bit
  pub at_zero : GivesByLevel table pins Zero bit
  pub at_one : GivesByLevel table pins One bit
