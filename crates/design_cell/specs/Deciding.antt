-- Which row of a table decides, the rows being numbered from 1.
use Rattle.std.specs.Prelude.{◌≡◌, ◌⊎◌, ℕ, ◌+◌, ◌<◌, Bool, false, Option, None, Some, List, [], ◌∷◌, ◌++◌, length}
use Rattle.std.specs.Prelude.{slice_index_or}
use Rattle.design_cell.specs.declared.value.Value.{Value}
use Rattle.design_cell.specs.declared.value.Value.TheVariants.{X}
use Rattle.design_cell.specs.declared.row.RawRow.{RawRow}
use Rattle.design_cell.specs.Index.{IsFirst}
use Rattle.design_cell.specs.Next.{changed_pins, pins_after, state_after}
use Rattle.design_cell.specs.Row.{columns, matches, row_at}
use Rattle.design_cell.specs.Table.{Table, edge_at, level_at}

-- No row passes a test; or a row is the least one that passes.
abbrev pub NoRow : (RawRow → Bool) → List RawRow → Type 0
NoRow test rows = (k : ℕ) → k < length rows → test (row_at rows k) ≡ false

pub record IsLeastRow (test : RawRow → Bool) (rows : List RawRow) (row : ℕ) : Type 0 where
  pub position : ℕ
  pub row_is : row ≡ position + 1
  pub first : IsFirst test rows position

-- The least row of a combinational primitive that matches its pins; none exactly where no row does.
abbrev pub IsRowOf : Table → List Value → Option ℕ → Type 0
IsRowOf table pins None = NoRow (matches table.inputs (columns pins X) (columns pins X)) table.rows
IsRowOf table pins (Some row) = IsLeastRow (matches table.inputs (columns pins X) (columns pins X)) table.rows row

-- The least level row that matches after a pin changed, or the least edge row where no level row does.
pub record IsEdgeOfChange (table : Table) (pins : List Value) (pin : ℕ) (old q : Value) (row : ℕ) : Type 0 where
  pub no_level : NoRow (level_at table pins pin old q) table.rows
  pub edge : IsLeastRow (edge_at table pins pin old q) table.rows row

abbrev pub IsRowOfChange : Table → List Value → ℕ → Value → Value → Option ℕ → Type 0
IsRowOfChange table pins pin old q None =
    NoRow (level_at table pins pin old q) table.rows × NoRow (edge_at table pins pin old q) table.rows
IsRowOfChange table pins pin old q (Some row) =
    IsLeastRow (level_at table pins pin old q) table.rows row ⊎ IsEdgeOfChange table pins pin old q row

-- The number of a position from 1.
abbrev pub numbered : Option ℕ → Option ℕ
numbered None = None
numbered (Some k) = Some (k + 1)

-- The row that decides as the last of some pins changes, after some that changed before and the others one by one.
pub record DecidesLast (table : Table) (old new : List Value) (before changed : List ℕ) (q : Value)
    (row : Option ℕ) : Type 0 where
  pub earlier : List ℕ
  pub pin : ℕ
  pub changed_ : changed ≡ earlier ++ pin ∷ []
  pub decides : IsRowOfChange table (pins_after old new (before ++ changed)) pin (slice_index_or old pin X)
      (state_after table old new before earlier q) row

abbrev pub IsLastOf : Table → List Value → List Value → List ℕ → List ℕ → Value → Option ℕ → Option ℕ → Type 0
IsLastOf table old new before changed q from row =
    (changed ≡ []) × (row ≡ from) ⊎ DecidesLast table old new before changed q row

-- The row that decides at the last of the changes of a register's pins; none where no pin has changed.
abbrev pub IsLastRow : Table → ℕ → List Value → List Value → Value → Option ℕ → Type 0
IsLastRow table clocks old new q row = IsLastOf table old new [] (changed_pins clocks old new table.inputs) q None row
