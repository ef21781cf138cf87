-- An index of the rows: a word of bits for each column and pair of values, one bit a row. No contract of a public call
-- names it.
use Rattle.std.specs.Prelude.{◌≡◌, ℕ, ◌+◌, ◌*◌, ◌/◌, ◌%◌, ◌<◌, ◌≤◌, ◌==◌, Bool, true, false, cond, Option, Some, None}
use Rattle.std.specs.Prelude.{List, [], length, slice_index, slice_index_or, ◌^◌}
use Rattle.std.specs.Int.{bit_at}
use Rattle.design_cell.specs.declared.value.Value.{Value}
use Rattle.design_cell.specs.declared.value.Value.TheVariants.{Zero, One, X, Z}
use Rattle.design_cell.specs.declared.row.RawRow.{RawRow}
use Rattle.design_cell.specs.declared.row.Changed.{Changed}
use Rattle.design_cell.specs.declared.index.Block.{Block}
use Rattle.design_cell.specs.Symbol.{fits, output_of}
use Rattle.design_cell.specs.Row.{symbol_at, is_edge_row, row_at, nowhere, columns, before, matches}
use Rattle.design_cell.specs.Table.{level_matches, edge_matches}
use Rattle.design_cell.specs.Refusal.{IsLegal}

abbrev pub code : Value → ℕ
code Zero = 0
code One = 1
code X = 2
code Z = 2

abbrev pub value_of : ℕ → Value
value_of code = cond (code == 0) Zero (cond (code == 1) One X)

abbrev pub flag : Bool → ℕ
flag b = cond b 1 0

-- the bits of a word are those of a test
abbrev pub IsMask : (ℕ → Bool) → ℕ → Type 0
IsMask test word = (i : ℕ) → i < 64 → bit_at word i ≡ flag (test i)

-- the word of a place in a block: 9 times the column, 3 times the old value's code, and the new one's
abbrev pub IsCell : List RawRow → ℕ → ℕ → ℕ → Type 0
IsCell rows base p word =
    IsMask (λ i. fits (symbol_at (row_at rows (base + i)) (p / 9)) (value_of (p % 9 / 3)) (value_of (p % 3))) word

-- the word of outputs of a place in a block: 3 times the state's code and that of the output
abbrev pub IsOutputCell : List RawRow → ℕ → ℕ → ℕ → Type 0
IsOutputCell rows base p word =
    IsMask (λ i. code (output_of (row_at rows (base + i)).output (value_of (p / 3))) == p % 3) word

pub record IsBlock (rows : List RawRow) (base : ℕ) (block : Block) : Type 0 where
  pub cells : (p : ℕ) → p < 99 → IsCell rows base p (slice_index block.masks p)
  pub edges : IsMask (λ i. is_edge_row (row_at rows (base + i))) block.edges
  pub small : block.edges < 2 ^ 64
  pub outputs_ : (p : ℕ) → p < 9 → IsOutputCell rows base p (slice_index block.outputs p)
  pub small_outputs : (p : ℕ) → p < 9 → slice_index block.outputs p < 2 ^ 64

-- The bits of a word say which rows of a block pass a test.
abbrev pub TellsRows : Block → (RawRow → Bool) → ℕ → Type 0
TellsRows block test word =
    (rows : List RawRow) (base : ℕ) → IsBlock rows base block → IsMask (λ i. test (row_at rows (base + i))) word

abbrev pub no_block : Block
no_block = record { masks = []; edges = 0; outputs = [] }

-- a block for each 64 rows
pub record IsIndexed (rows : List RawRow) (blocks : List Block) : Type 0 where
  pub each : (j : ℕ) → j < length blocks → IsBlock rows (64 * j) (slice_index_or blocks j no_block)
  pub cover : length rows ≤ 64 * length blocks

-- what a table with its index keeps
pub record Holds (sequential : Bool) (inputs : ℕ) (rows : List RawRow) (blocks : List Block) : Type 0 where
  pub few : inputs ≤ 10
  pub legal : IsLegal sequential inputs rows
  pub indexed : IsIndexed rows blocks

pub record IsFirst (test : RawRow → Bool) (rows : List RawRow) (k : ℕ) : Type 0 where
  pub within : k < length rows
  pub here : test (row_at rows k) ≡ true
  pub earlier : (i : ℕ) → i < k → test (row_at rows i) ≡ false

-- the first row that passes, or none below an end
abbrev pub IsFirstBelow : (RawRow → Bool) → List RawRow → ℕ → Option ℕ → Type 0
IsFirstBelow test rows end None = (i : ℕ) → i < end → test (row_at rows i) ≡ false
IsFirstBelow test rows end (Some k) = IsFirst test rows k

-- the first row of an index that passes, or none
abbrev pub FindsFirst : List Block → (RawRow → Bool) → Option ℕ → Type 0
FindsFirst blocks test found = (rows : List RawRow) → IsIndexed rows blocks → IsFirstBelow test rows (length rows) found

-- From the first row below a base and the word of the next 64 rows comes the first row below their end.
abbrev pub GoesOn : ℕ → Option ℕ → ℕ → Option ℕ → Type 0
GoesOn base found word next =
    (rows : List RawRow) (test : RawRow → Bool) → test nowhere ≡ false →
    IsFirstBelow test rows base found → IsMask (λ i. test (row_at rows (base + i))) word
    → IsFirstBelow test rows (base + 64) next

-- the rows, the level rows and the edge rows that match after a change
abbrev pub matching : Option Changed → List Value → Value → RawRow → Bool
matching changed pins q = matches (length pins) (before changed (columns pins q)) (columns pins q)

abbrev pub level_matching : Option Changed → List Value → Value → RawRow → Bool
level_matching changed pins q = level_matches (length pins) (before changed (columns pins q)) (columns pins q)

abbrev pub edge_matching : Option Changed → List Value → Value → RawRow → Bool
edge_matching changed pins q = edge_matches (length pins) (before changed (columns pins q)) (columns pins q)

-- the output of a row, x where there is none
abbrev pub output_at : List RawRow → Option ℕ → Value → Value
output_at rows None q = X
output_at rows (Some k) q = output_of (row_at rows k).output q
