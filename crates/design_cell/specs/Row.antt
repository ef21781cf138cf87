-- Which rows of a primitive's table match a case (IEEE 1364-2005, clause 8).
use Rattle.std.specs.Prelude.{ℕ, zero, suc, ◌+◌, ◌==◌, ◌&&◌, Bool, true, cond, Option, Some, None, List, []}
use Rattle.std.specs.Prelude.{slice_index_or}
use Rattle.std.specs.List.{list_any}
use Rattle.design_cell.specs.declared.value.Value.{Value}
use Rattle.design_cell.specs.declared.symbol.Symbol.{Symbol}
use Rattle.design_cell.specs.declared.symbol.Symbol.TheVariants.{Single, Change}
use Rattle.design_cell.specs.declared.row.RawRow.{RawRow}
use Rattle.design_cell.specs.declared.row.Changed.{Changed}
use Rattle.design_cell.specs.Symbol.{fits, is_edge}

-- Where a row has no state, its state may be any.
abbrev pub state_symbol : Option Symbol → Symbol
state_symbol None = Single 63
state_symbol (Some symbol) = symbol

-- The columns of a row are its entries, and behind the last one the state.
abbrev pub symbol_at : RawRow → ℕ → Symbol
symbol_at row c = slice_index_or row.entries c (state_symbol row.state)

-- The values of the columns are those of the pins, and behind the last one the state.
abbrev pub columns : List Value → Value → ℕ → Value
columns pins q c = slice_index_or pins c q

-- Before a pin changed, its column had the pin's old value.
abbrev pub before : Option Changed → (ℕ → Value) → ℕ → Value
before None new = new
before (Some changed) new = λ c. cond (c == changed.pin) changed.old (new c)

-- Each of the first columns fits.
abbrev pub fits_below : ℕ → RawRow → (ℕ → Value) → (ℕ → Value) → Bool
fits_below zero row old new = true
fits_below (suc n) row old new = fits_below n row old new && fits (symbol_at row n) (old n) (new n)

-- A row matches where the column of each input and of the state fits. So an edge stands at the pin that changed.
abbrev pub matches : ℕ → (ℕ → Value) → (ℕ → Value) → RawRow → Bool
matches inputs old new row = fits_below (inputs + 1) row old new

-- A row with an edge is an edge row, any other is a level row.
abbrev pub is_edge_row : RawRow → Bool
is_edge_row row = list_any is_edge row.entries

-- A row that matches nothing: it stands behind the last row.
abbrev pub nowhere : RawRow
nowhere = record { entries = []; state = Some (Change 48 48); output = Single 120 }

abbrev pub row_at : List RawRow → ℕ → RawRow
row_at rows k = slice_index_or rows k nowhere
