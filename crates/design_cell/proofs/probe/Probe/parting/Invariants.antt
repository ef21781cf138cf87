-- The loop of `parting`.
use Rattle.std.proofs.Common.{◌+◌, ℕ, List}
use Rattle.design_cell.specs.declared.row.RawRow.{RawRow}
use Rattle.design_cell.specs.Row.{row_at}
use Rattle.design_cell.specs.Below.{any_below}
use Rattle.design_cell.specs.Index.{IsBlock, IsMask}
use Rattle.design_cell.specs.Probe.{IsProbe}
use Rattle.design_cell.specs.Meeting.{part_at}
use Rattle.design_cell.proofs.probe.Probe.parting.Given as goal

abbrev pub invariant-loop-state : goal.invariant-loop-state
invariant-loop-state l = (inputs : ℕ) (row : RawRow) (rows : List RawRow) (base : ℕ) → IsProbe inputs row l.self → IsBlock rows base l.block → IsMask (λ i. any_below l.state (part_at inputs row (row_at rows (base + i)))) l.word
