-- What the words of a sweep say of the rows behind. No contract of a public call names these.
use Rattle.std.specs.Prelude.{◌≡◌, ℕ, ◌+◌, ◌*◌, ◌/◌, ◌%◌, ◌<◌, ◌≤◌, ◌^◌, Bool, true, false, Option, List, length}
use Rattle.std.specs.Prelude.{slice_index_or}
use Rattle.design_cell.specs.declared.row.RawRow.{RawRow}
use Rattle.design_cell.specs.declared.sweep.Sweep.{Sweep}
use Rattle.design_cell.specs.declared.taken.Taken.{Taken}
use Rattle.design_cell.specs.Symbol.{output_of}
use Rattle.design_cell.specs.Row.{row_at}
use Rattle.design_cell.specs.Index.{code}
use Rattle.design_cell.specs.Digits.{digit, IsTriple, word_count, marked, Marks}
use Rattle.design_cell.specs.Marks.{meets, covers}
use Rattle.design_cell.specs.Sweep.{accepts, takes_part, FirstToClash}

abbrev pub AreDigits : ℕ → Sweep → RawRow → List Bool → Type 0
AreDigits inputs sweep row digits =
    (k : ℕ) → k < 30 → slice_index_or digits k false ≡ accepts inputs sweep row (k / 3) (k % 3)

-- the digits and numbers that a row takes in a sweep, and the code of its output
pub record IsTaken (inputs : ℕ) (sweep : Sweep) (row : RawRow) (taken : Taken) : Type 0 where
  pub columns : taken.inputs ≡ inputs
  pub digits_ : AreDigits inputs sweep row taken.digits
  pub middles : IsTriple (digit taken.digits) 3 taken.middle
  pub lows : IsTriple (digit taken.digits) 0 taken.low
  pub small : taken.low < 2 ^ 64
  pub gives : taken.output ≡ code (output_of row.output sweep.state)

-- The row takes the case of these digits, and the bit is that of the case and the row's output.
pub record Owns (inputs : ℕ) (sweep : Sweep) (row : RawRow) (p b : ℕ) : Type 0 where
  pub part : takes_part inputs sweep row ≡ true
  pub case : ℕ → ℕ
  pub small : (c : ℕ) → case c < 3
  pub takes : (c : ℕ) → c < 10 → accepts inputs sweep row c (case c) ≡ true
  pub low : b ≡ case 0 + 3 * (case 1 + 3 * case 2)
  pub word : ℕ
  pub word_is : word ≡ case 3 + 3 * (case 4 + 3 * (case 5 + 3 * (case 6 + 3 * (case 7 + 3 * (case 8 + 3 * case 9)))))
  pub place_is : p ≡ 3 * word + code (output_of row.output sweep.state)

-- some row from one on owns a bit
abbrev pub OwnedFrom : ℕ → Sweep → List RawRow → ℕ → ℕ → ℕ → Type 0
OwnedFrom inputs sweep rows start p b =
    (j : ℕ) × (start ≤ j) × (j < length rows) × Owns inputs sweep (row_at rows j) p b

-- The bits are those of the rows from one on.
pub record IsSeen (inputs : ℕ) (sweep : Sweep) (rows : List RawRow) (start : ℕ) (seen : List ℕ) : Type 0 where
  pub sound : (p b : ℕ) → p < 3 * word_count inputs → marked seen p b ≡ true → OwnedFrom inputs sweep rows start p b
  pub complete : (j p b : ℕ) → start ≤ j → j < length rows → Owns inputs sweep (row_at rows j) p b → marked seen p b
      ≡ true

-- Whether the cases that a row takes are met, and their marks.
abbrev pub IsLooked : ℕ → Sweep → RawRow → List ℕ → List ℕ → Bool → Type 0
IsLooked inputs sweep row old new hit =
    (taken : Taken) × IsTaken inputs sweep row taken × (hit ≡ meets taken old) × Marks old new (covers taken) taken.low

-- what a look at a row tells and marks
pub record Looks (inputs : ℕ) (sweep : Sweep) (row : RawRow) (old new : List ℕ) (hit : Bool) : Type 0 where
  pub long : length new ≡ length old
  pub absent : takes_part inputs sweep row ≡ false → (new ≡ old) × (hit ≡ false)
  pub present : takes_part inputs sweep row ≡ true → IsLooked inputs sweep row old new hit

-- The words and the first row are those of the rows from one on.
pub record IsSwept (inputs : ℕ) (sweep : Sweep) (rows : List RawRow) (start : ℕ) (seen : List ℕ)
    (first : Option ℕ) : Type 0 where
  pub room : length seen ≡ 6561
  pub seen_ : IsSeen inputs sweep rows start seen
  pub first_ : FirstToClash inputs sweep rows start first

-- The row behind a row is the same.
pub record Repeats (rows : List RawRow) (i : ℕ) : Type 0 where
  pub within : i + 1 < length rows
  pub same : row_at rows i ≡ row_at rows (i + 1)
