-- How the first row in conflict is found: the cases that rows take, by sweeps. No contract of a public call names
-- these.
use Rattle.std.specs.Prelude.{◌≡◌, ℕ, ◌+◌, ◌-◌, ◌*◌, ◌/◌, ◌%◌, ◌<◌, ◌≤◌, ◌==◌, ◌&&◌, Bool, true, false, cond, not}
use Rattle.std.specs.Prelude.{Option, Some, None, List, length, min}
use lib.Dec.{ltb}
use Rattle.design_cell.specs.declared.value.Value.{Value}
use Rattle.design_cell.specs.declared.value.Value.TheVariants.{Zero}
use Rattle.design_cell.specs.declared.symbol.Symbol.TheVariants.{Single}
use Rattle.design_cell.specs.declared.row.RawRow.{RawRow}
use Rattle.design_cell.specs.declared.row.Changed.{Changed}
use Rattle.design_cell.specs.declared.sweep.Sweep.{Sweep}
use Rattle.design_cell.specs.Symbol.{fits, is_edge, output_of}
use Rattle.design_cell.specs.Row.{symbol_at, is_edge_row, row_at, before}
use Rattle.design_cell.specs.Index.{code, value_of}

abbrev pub changed_of : ℕ → Option Changed
changed_of number =
    cond (number == 0) None (Some (record { pin = (number - 1) / 3; old = value_of ((number - 1) % 3) }))

abbrev pub sweep_of : ℕ → Sweep
sweep_of number = record { changed = changed_of (number / 3); state = value_of (number % 3) }

-- A column takes a digit where it fits the value with this code. A column behind the inputs takes 0 alone.
unfoldable pub accepts : ℕ → Sweep → RawRow → ℕ → ℕ → Bool
accepts inputs sweep row c d =
    cond (ltb c inputs) (fits (symbol_at row c) (before sweep.changed (λ _. value_of d) c) (value_of d)) (d == 0)

-- a level row, or a row with its edge at the pin that changed
abbrev pub is_turned : Option Changed → RawRow → Bool
is_turned None row = not (is_edge_row row)
is_turned (Some changed) row = is_edge (symbol_at row changed.pin)

abbrev pub takes_part : ℕ → Sweep → RawRow → Bool
takes_part inputs sweep row = is_turned sweep.changed row && fits (symbol_at row inputs) sweep.state sweep.state

-- Both rows take one case of the sweep, and give different outputs there.
pub record Clash (inputs : ℕ) (sweep : Sweep) (row other : RawRow) : Type 0 where
  pub first : takes_part inputs sweep row ≡ true
  pub second : takes_part inputs sweep other ≡ true
  pub case : ℕ → ℕ
  pub small : (c : ℕ) → case c < 3
  pub first_takes : (c : ℕ) → c < 10 → accepts inputs sweep row c (case c) ≡ true
  pub second_takes : (c : ℕ) → c < 10 → accepts inputs sweep other c (case c) ≡ true
  pub apart : code (output_of row.output sweep.state) ≡ code (output_of other.output sweep.state) → ⊥

-- One sweep at the state 0 does for a combinational primitive, where no pin's change and no state matter.
abbrev pub sweep_count : Bool → ℕ → ℕ
sweep_count sequential inputs = cond sequential (9 * inputs + 3) 1

-- a row of a combinational primitive: a level row that takes any state, with one output
pub record IsStateless (inputs : ℕ) (row : RawRow) : Type 0 where
  pub level : is_edge_row row ≡ false
  pub any : symbol_at row inputs ≡ Single 63
  pub fixed : (q : Value) → output_of row.output q ≡ output_of row.output Zero

abbrev pub AreStateless : Bool → ℕ → List RawRow → Type 0
AreStateless sequential inputs rows =
    (k : ℕ) → k < length rows → sequential ≡ false → IsStateless inputs (row_at rows k)

-- The rows differ in one of the first sweeps.
abbrev pub Differ : ℕ → List RawRow → ℕ → ℕ → ℕ → Type 0
Differ inputs rows end i j = (t : ℕ) × (t < end) × Clash inputs (sweep_of t) (row_at rows i) (row_at rows j)

-- the first number from a start on that is in a relation with one behind it, below an end
pub record IsFirstIn (related : ℕ → ℕ → Type 0) (start end k : ℕ) : Type 0 where
  pub from : start ≤ k
  pub second : ℕ
  pub after : k < second
  pub below : second < end
  pub here : related k second
  pub earlier : (i j : ℕ) → start ≤ i → i < k → i < j → j < end → related i j → ⊥

abbrev pub FirstIn : (ℕ → ℕ → Type 0) → ℕ → ℕ → Option ℕ → Type 0
FirstIn related start end None = (i j : ℕ) → start ≤ i → i < j → j < end → related i j → ⊥
FirstIn related start end (Some k) = IsFirstIn related start end k

-- the first row that clashes in a sweep with one behind it
abbrev pub FirstToClash : ℕ → Sweep → List RawRow → ℕ → Option ℕ → Type 0
FirstToClash inputs sweep rows start found =
    FirstIn (λ i j. Clash inputs sweep (row_at rows i) (row_at rows j)) start (length rows) found

-- the first row that differs from one behind it in some sweep
abbrev pub FirstToDiffer : Bool → ℕ → List RawRow → Option ℕ → Type 0
FirstToDiffer sequential inputs rows found =
    FirstIn (Differ inputs rows (sweep_count sequential inputs)) 0 (length rows) found

abbrev pub earlier_of : Option ℕ → Option ℕ → Option ℕ
earlier_of None other = other
earlier_of (Some k) None = Some k
earlier_of (Some k) (Some j) = Some (min k j)
