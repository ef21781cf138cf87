-- Which tables are refused, and why (IEEE 1364-2005, clause 8).
use Rattle.std.specs.Prelude.{◌≡◌, ◌≢◌, ℕ, ◌+◌, ◌<◌, ◌≤◌, ◌==◌, ◌&&◌, ◌||◌, Bool, true, false, cond, Option, Some, None}
use Rattle.std.specs.Prelude.{List, length, not, count_by, Result, Err, MatchResult}
use Rattle.std.specs.List.{list_all}
use Rattle.design_cell.specs.declared.symbol.Symbol.{Symbol}
use Rattle.design_cell.specs.declared.symbol.Symbol.TheVariants.{Single, Change}
use Rattle.design_cell.specs.declared.row.RawRow.{RawRow}
use Rattle.design_cell.specs.declared.refusal.UdpErr.{UdpErr}
use Rattle.design_cell.specs.declared.refusal.UdpErr.TheVariants.{TooManyInputs, RowLength, BadSymbol, TwoEdges}
use Rattle.design_cell.specs.declared.refusal.UdpErr.TheVariants.{Conflict, Memory}
use Rattle.design_cell.specs.Symbol.{is_edge, is_edge_letter, is_level, is_level_letter}
use Rattle.design_cell.specs.Row.{row_at}
use Rattle.design_cell.specs.Conflict.{NoConflict, IsFirstConflict}

-- A sequential primitive has at most 9 inputs, a combinational one at most 10 (profile).
abbrev pub input_limit : Bool → ℕ
input_limit sequential = cond sequential 9 10

abbrev pub has_state : Option Symbol → Bool
has_state None = false
has_state (Some symbol) = true

-- A row has an entry for each input, and a state exactly where the primitive is sequential.
unfoldable pub has_length : Bool → ℕ → RawRow → Bool
has_length sequential inputs row =
    (length row.entries == inputs) && cond sequential (has_state row.state) (not (has_state row.state))

-- An entry is a level letter, and in a sequential primitive also an edge letter or a change between level letters.
abbrev pub is_entry : Bool → Symbol → Bool
is_entry sequential (Single c) = is_level_letter c || sequential && is_edge_letter c
is_entry sequential (Change a b) = sequential && is_level_letter a && is_level_letter b

-- A state is a level letter.
abbrev pub is_state : Option Symbol → Bool
is_state None = true
is_state (Some symbol) = is_level symbol

-- An output is '0', '1' or 'x', and in a sequential primitive also '-'.
abbrev pub is_output : Bool → Symbol → Bool
is_output sequential (Single c) = c == 48 || c == 49 || c == 120 || c == 88 || sequential && (c == 45)
is_output sequential (Change a b) = false

unfoldable pub has_symbols : Bool → RawRow → Bool
has_symbols sequential row =
    list_all (is_entry sequential) row.entries && is_state row.state && is_output sequential row.output

-- A row has at most one edge.
unfoldable pub has_one_edge : RawRow → Bool
has_one_edge row = (count_by is_edge row.entries == 0) || (count_by is_edge row.entries == 1)

-- every row passes
abbrev pub AllRows : (RawRow → Bool) → List RawRow → Type 0
AllRows test rows = (i : ℕ) → i < length rows → test (row_at rows i) ≡ true

-- the first row that fails a test
pub record IsFirstBad (test : RawRow → Bool) (rows : List RawRow) (k : ℕ) : Type 0 where
  pub within : k < length rows
  pub here : test (row_at rows k) ≡ false
  pub earlier : (i : ℕ) → i < k → test (row_at rows i) ≡ true

-- the first row that fails a test, where rows are counted from 1
abbrev pub IsFirstBadRow : (RawRow → Bool) → List RawRow → ℕ → Type 0
IsFirstBadRow test rows row = (k : ℕ) × (row ≡ k + 1) × IsFirstBad test rows k

-- a pass over the rows: each passes the test, or this is the first that fails it
abbrev pub Checks : (RawRow → Bool) → List RawRow → Result Unit ℕ → Type 0
Checks test rows result = MatchResult result (λ _. AllRows test rows) (λ row. IsFirstBadRow test rows row)

-- every row has the right length, symbols that its columns take, and at most one edge
pub record AreRows (sequential : Bool) (inputs : ℕ) (rows : List RawRow) : Type 0 where
  pub lengths : AllRows (has_length sequential inputs) rows
  pub symbols : AllRows (has_symbols sequential) rows
  pub edges : AllRows has_one_edge rows

-- A table is legal where there is nothing to refuse.
pub record IsLegal (sequential : Bool) (inputs : ℕ) (rows : List RawRow) : Type 0 where
  pub few : inputs ≤ input_limit sequential
  pub rows_ : AreRows sequential inputs rows
  pub apart : NoConflict inputs rows

-- The refusal of a table is the first in this order, rows ascending: the kind counts before the row, so that all rows
-- have the right length before a symbol is refused. Rows are counted from 1. Memory may be wanting for a legal table
-- only.
abbrev pub IsRefusal : Bool → ℕ → List RawRow → UdpErr → Type 0
IsRefusal sequential inputs rows TooManyInputs = input_limit sequential < inputs
IsRefusal sequential inputs rows (RowLength row) =
    (inputs ≤ input_limit sequential) × IsFirstBadRow (has_length sequential inputs) rows row
IsRefusal sequential inputs rows (BadSymbol row) =
    (inputs ≤ input_limit sequential) × AllRows (has_length sequential inputs) rows
    × IsFirstBadRow (has_symbols sequential) rows row
IsRefusal sequential inputs rows (TwoEdges row) =
    (inputs ≤ input_limit sequential) × AllRows (has_length sequential inputs) rows
    × AllRows (has_symbols sequential) rows × IsFirstBadRow has_one_edge rows row
IsRefusal sequential inputs rows (Conflict first second) =
    (inputs ≤ input_limit sequential) × AreRows sequential inputs rows × (i : ℕ) × (j : ℕ) × (first ≡ i + 1)
    × (second ≡ j + 1) × IsFirstConflict inputs rows i j
IsRefusal sequential inputs rows Memory = IsLegal sequential inputs rows

-- A refusal of the table is the answer, but for want of memory.
abbrev pub IsReported : {X : Type 0} → Bool → ℕ → List RawRow → Result X UdpErr → Type 0
IsReported sequential inputs rows result =
    (refusal : UdpErr) → refusal ≢ Memory → IsRefusal sequential inputs rows refusal → result ≡ Err refusal

-- a table is legal, or refused for this
abbrev pub Judges : Bool → ℕ → List RawRow → Result Unit UdpErr → Type 0
Judges sequential inputs rows result =
    MatchResult result (λ _. IsLegal sequential inputs rows) (λ refusal. IsRefusal sequential inputs rows refusal)
