-- The loop of `meeting_at`.
use Rattle.std.proofs.Common.{◌+◌, ℕ, List}
use Rattle.design_cell.specs.declared.row.RawRow.{RawRow}
use Rattle.design_cell.specs.Row.{row_at, symbol_at}
use Rattle.design_cell.specs.Below.{any_below}
use Rattle.design_cell.specs.Index.{IsBlock, IsMask}
use Rattle.design_cell.specs.Probe.{IsProbe}
use Rattle.design_cell.specs.Meeting.{meet_at}
use Rattle.design_cell.proofs.probe.Probe.meeting_at.Given as goal

abbrev pub invariant-loop-pair : goal.invariant-loop-pair
invariant-loop-pair l = (inputs : ℕ) (row : RawRow) (rows : List RawRow) (base : ℕ) → IsProbe inputs row l.self → IsBlock rows base l.block → IsMask (λ i. any_below l.pair (meet_at (symbol_at row l.c) (symbol_at (row_at rows (base + i)) l.c))) l.word
