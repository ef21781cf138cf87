-- What a primitive's table gives (IEEE 1364-2005, clause 8).
use Rattle.std.specs.Prelude.{◌≡◌, ℕ, ◌&&◌, Bool, true, false, cond, not, Some, List, [], ◌∷◌, All}
use Rattle.std.specs.List.{list_any}
use Rattle.design_cell.specs.declared.value.Value.{Value}
use Rattle.design_cell.specs.declared.value.Value.TheVariants.{X}
use Rattle.design_cell.specs.declared.row.RawRow.{RawRow}
use Rattle.design_cell.specs.Symbol.{output_of}
use Rattle.design_cell.specs.Row.{columns, before, matches, is_edge_row}

-- A primitive: whether it is sequential, how many inputs it has, its rows, and the state that a register of it starts
-- with.
pub record Table : Type 0 where
  pub sequential : Bool
  pub inputs : ℕ
  pub rows : List RawRow
  pub start : Value

abbrev pub table_of : Bool → ℕ → List RawRow → Value → Table
table_of sequential inputs rows start = record { sequential = sequential; inputs = inputs; rows = rows; start = start }

abbrev pub level_matches : ℕ → (ℕ → Value) → (ℕ → Value) → RawRow → Bool
level_matches inputs old new row = not (is_edge_row row) && matches inputs old new row

abbrev pub edge_matches : ℕ → (ℕ → Value) → (ℕ → Value) → RawRow → Bool
edge_matches inputs old new row = is_edge_row row && matches inputs old new row

-- The output of a row that passes a test, else another value. It is that of the first one, which in a legal table is
-- that of any (`IsLook`, `IsChange`).
abbrev pub pick : (RawRow → Bool) → Value → Value → List RawRow → Value
pick test q other [] = other
pick test q other (row ∷ rows) = cond (test row) (output_of row.output q) (pick test q other rows)

-- each row that passes a test has this output
abbrev pub IsOutput : (RawRow → Bool) → Value → List RawRow → Value → Type 0
IsOutput test q rows value = All (λ (row : RawRow). test row ≡ true → value ≡ output_of row.output q) rows

-- The value of a combinational primitive is the output of a matching row, else x.
unfoldable pub look : Table → List Value → Value
look table pins = pick (matches table.inputs (columns pins X) (columns pins X)) X X table.rows

-- The rows are an unordered list: the value is the output of any matching row, else x.
pub record IsLook (table : Table) (pins : List Value) (value : Value) : Type 0 where
  pub row : IsOutput (matches table.inputs (columns pins X) (columns pins X)) X table.rows value
  pub none : list_any (matches table.inputs (columns pins X) (columns pins X)) table.rows ≡ false → value ≡ X

-- the columns before a pin changed
abbrev pub columns_before : List Value → ℕ → Value → Value → ℕ → Value
columns_before pins pin old q = before (Some (record { pin = pin; old = old })) (columns pins q)

-- a level row, or an edge row, that matches after a pin went from an old value to its value among the pins
abbrev pub level_at : Table → List Value → ℕ → Value → Value → RawRow → Bool
level_at table pins pin old q = level_matches table.inputs (columns_before pins pin old q) (columns pins q)

abbrev pub edge_at : Table → List Value → ℕ → Value → Value → RawRow → Bool
edge_at table pins pin old q = edge_matches table.inputs (columns_before pins pin old q) (columns pins q)

-- The state of a sequential primitive, after a pin went from an old value to its value among the pins, is the output of
-- a matching level row, else of a matching edge row, else x.
unfoldable pub change : Table → List Value → ℕ → Value → Value → Value
change table pins pin old q =
    pick (level_at table pins pin old q) q (pick (edge_at table pins pin old q) q X table.rows) table.rows

-- The rows are an unordered list: the value is the output of any matching level row, else of any matching edge row,
-- else x.
pub record IsChange (table : Table) (pins : List Value) (pin : ℕ) (old q value : Value) : Type 0 where
  pub level : IsOutput (level_at table pins pin old q) q table.rows value
  pub edge : list_any (level_at table pins pin old q) table.rows ≡ false
      → IsOutput (edge_at table pins pin old q) q table.rows value
  pub none : list_any (level_at table pins pin old q) table.rows ≡ false
      → list_any (edge_at table pins pin old q) table.rows ≡ false → value ≡ X
