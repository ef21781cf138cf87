-- The loop of `matching`.
use Rattle.std.proofs.Common.{◌+◌, ℕ, List}
use Rattle.design_cell.specs.declared.row.RawRow.{RawRow}
use Rattle.design_cell.specs.Row.{fits_below, before, columns, row_at}
use Rattle.design_cell.specs.Index.{IsBlock, IsMask}
use Rattle.design_cell.proofs.index.matching.Given as goal

abbrev pub invariant-loop-c : goal.invariant-loop-c
invariant-loop-c l = (rows : List RawRow) (base : ℕ) → IsBlock rows base l.block → IsMask (λ i. fits_below l.c (row_at rows (base + i)) (before l.changed (columns l.pins l.q)) (columns l.pins l.q)) l.word
