-- When two rows of a primitive's table conflict (IEEE 1364-2005, clause 8).
use Rattle.std.specs.Prelude.{◌≡◌, ℕ, ◌<◌, true, Option, Some, None, List, length, Result, MatchResult}
use Rattle.design_cell.specs.declared.value.Value.{Value}
use Rattle.design_cell.specs.declared.row.RawRow.{RawRow}
use Rattle.design_cell.specs.declared.row.Changed.{Changed}
use Rattle.design_cell.specs.Symbol.{output_of}
use Rattle.design_cell.specs.Row.{before, matches, is_edge_row, row_at}

abbrev pub IsPinBelow : ℕ → Option Changed → Type 0
IsPinBelow inputs None = Unit {0}
IsPinBelow inputs (Some changed) = changed.pin < inputs

-- Two rows of one kind conflict where they match one case and their outputs there differ, with '-' read as the state of
-- the case. A case is a value for each column, and the pin that changed, if one did.
pub record AreInConflict (inputs : ℕ) (row other : RawRow) : Type 0 where
  pub changed : Option Changed
  pub new : ℕ → Value
  pub pin : IsPinBelow inputs changed
  pub kind : is_edge_row row ≡ is_edge_row other
  pub first : matches inputs (before changed new) new row ≡ true
  pub second : matches inputs (before changed new) new other ≡ true
  pub apart : output_of row.output (new inputs) ≡ output_of other.output (new inputs) → ⊥

-- none of the rows behind a row, up to an end, conflicts with it
abbrev pub NoneFrom : ℕ → List RawRow → ℕ → ℕ → Type 0
NoneFrom inputs rows i end = (j : ℕ) → i < j → j < end → AreInConflict inputs (row_at rows i) (row_at rows j) → ⊥

-- no two rows conflict
abbrev pub NoConflict : ℕ → List RawRow → Type 0
NoConflict inputs rows = (i : ℕ) → i < length rows → NoneFrom inputs rows i (length rows)

-- the pair of rows in conflict with the least first row, and of these the one with the least second row
pub record IsFirstConflict (inputs : ℕ) (rows : List RawRow) (first second : ℕ) : Type 0 where
  pub order : first < second
  pub within : second < length rows
  pub here : AreInConflict inputs (row_at rows first) (row_at rows second)
  pub same_row : NoneFrom inputs rows first second
  pub earlier : (i : ℕ) → i < first → NoneFrom inputs rows i (length rows)

-- no two rows conflict, or this is the first pair that does
abbrev pub FindsConflict : ℕ → List RawRow → Result Unit (ℕ × ℕ) → Type 0
FindsConflict inputs rows result =
    MatchResult result (λ _. NoConflict inputs rows) (λ pair. IsFirstConflict inputs rows pair.0 pair.1)
