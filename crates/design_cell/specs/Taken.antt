-- The lists of what a row takes and gives. No contract of a public call names it.
use Rattle.std.specs.Prelude.{◌≡◌, ℕ, ◌*◌, ◌/◌, ◌%◌, ◌<◌, Bool, false, List, slice_index_or}
use Rattle.design_cell.specs.declared.value.Value.{Value}
use Rattle.design_cell.specs.declared.value.Value.TheVariants.{X}
use Rattle.design_cell.specs.declared.symbol.Symbol.{Symbol}
use Rattle.design_cell.specs.declared.row.RawRow.{RawRow}
use Rattle.design_cell.specs.Symbol.{fits, output_of}
use Rattle.design_cell.specs.Row.{symbol_at}
use Rattle.design_cell.specs.Index.{value_of}
use Rattle.design_cell.specs.Meeting.{takes}

-- the pairs of values that a row's inputs take, nine a column
abbrev pub ArePairs : ℕ → RawRow → List Bool → Type 0
ArePairs inputs row pairs =
    (p : ℕ) → p < 9 * inputs → slice_index_or pairs p false ≡ takes (symbol_at row (p / 9)) (p % 9)

-- whether a state's symbol takes 0, 1 and x
abbrev pub AreStates : Symbol → List Bool → Type 0
AreStates symbol states = (s : ℕ) → s < 3 → slice_index_or states s false ≡ fits symbol (value_of s) (value_of s)

-- the output at the states 0, 1 and x
abbrev pub AreOutputs : Symbol → List Value → Type 0
AreOutputs symbol outputs = (s : ℕ) → s < 3 → slice_index_or outputs s X ≡ output_of symbol (value_of s)
