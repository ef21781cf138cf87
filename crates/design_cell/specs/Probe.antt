-- What a row's probe holds, by which its conflicts with 64 others are found. No contract of a public call names it.
use Rattle.std.specs.Prelude.{◌≡◌, ℕ, ◌+◌, Bool, List}
use Rattle.design_cell.specs.declared.row.RawRow.{RawRow}
use Rattle.design_cell.specs.declared.index.Block.{Block}
use Rattle.design_cell.specs.declared.probe.Probe.{Probe}
use Rattle.design_cell.specs.Row.{symbol_at, is_edge_row, row_at}
use Rattle.design_cell.specs.Index.{IsBlock, IsMask}
use Rattle.design_cell.specs.Taken.{ArePairs, AreStates, AreOutputs}

-- the pairs of values that each column takes, nine a column, the states that it takes, and its outputs there
pub record IsProbe (inputs : ℕ) (row : RawRow) (probe : Probe) : Type 0 where
  pub columns : probe.inputs ≡ inputs
  pub kind : probe.is_edge ≡ is_edge_row row
  pub pairs : ArePairs inputs row probe.takes
  pub stands : AreStates (symbol_at row inputs) probe.states
  pub gives : AreOutputs row.output probe.outputs

-- The bits of a word say which rows of a block pass a test against the probe's row, for so many inputs.
abbrev pub Tells : Probe → Block → (ℕ → RawRow → RawRow → Bool) → ℕ → Type 0
Tells probe block test word =
    (inputs : ℕ) (row : RawRow) (rows : List RawRow) (base : ℕ) →
    IsProbe inputs row probe → IsBlock rows base block → IsMask (λ i. test inputs row (row_at rows (base + i))) word
