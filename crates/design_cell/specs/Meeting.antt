-- How conflicts are decided column by column. No contract of a public call names these.
use Rattle.std.specs.Prelude.{◌≡◌, ℕ, zero, suc, ◌/◌, ◌%◌, ◌<◌, ◌==◌, ◌&&◌, ◌||◌, Bool, true, false, cond, not}
use Rattle.design_cell.specs.declared.symbol.Symbol.{Symbol}
use Rattle.design_cell.specs.declared.row.RawRow.{RawRow}
use Rattle.design_cell.specs.Symbol.{fits, is_edge, output_of}
use Rattle.design_cell.specs.Row.{symbol_at, is_edge_row}
use Rattle.design_cell.specs.Below.{any_below}
use Rattle.design_cell.specs.Index.{code, value_of}

-- A symbol takes a pair of values where it fits there; a level symbol takes only equal ones. The pair is a number: 3
-- times the old value's code and the new one's.
unfoldable pub takes : Symbol → ℕ → Bool
takes symbol pair =
    fits symbol (value_of (pair / 3)) (value_of (pair % 3)) && (is_edge symbol || (pair / 3 == pair % 3))

-- Two symbols of a column meet where the second one fits a pair that the first one takes.
unfoldable pub meet_at : Symbol → Symbol → ℕ → Bool
meet_at symbol other pair = takes symbol pair && fits other (value_of (pair / 3)) (value_of (pair % 3))

unfoldable pub meet : Symbol → Symbol → Bool
meet symbol other = any_below 9 (meet_at symbol other)

abbrev pub meet_below : ℕ → RawRow → RawRow → Bool
meet_below zero row other = true
meet_below (suc n) row other = meet_below n row other && meet (symbol_at row n) (symbol_at other n)

-- Both rows take a state, and give different outputs there.
unfoldable pub part_at : ℕ → RawRow → RawRow → ℕ → Bool
part_at inputs row other state =
    let q = value_of state in
    fits (symbol_at row inputs) q q && (fits (symbol_at other inputs) q q
    && not (code (output_of other.output q) == code (output_of row.output q)))

abbrev pub same_kind : RawRow → RawRow → Bool
same_kind row other = cond (is_edge_row row) (is_edge_row other) (not (is_edge_row other))

unfoldable pub is_conflict : ℕ → RawRow → RawRow → Bool
is_conflict inputs row other =
    same_kind row other && any_below 3 (part_at inputs row other) && meet_below inputs row other

-- what the earlier refusals leave of a row
pub record IsRow (inputs : ℕ) (row : RawRow) : Type 0 where
  pub one : (c d : ℕ) → is_edge (symbol_at row c) ≡ true → is_edge (symbol_at row d) ≡ true → c ≡ d
  pub state : is_edge (symbol_at row inputs) ≡ false
  pub found : is_edge_row row ≡ true → (c : ℕ) × (c < inputs) × (is_edge (symbol_at row c) ≡ true)
  pub kind : (c : ℕ) → c < inputs → is_edge (symbol_at row c) ≡ true → is_edge_row row ≡ true
