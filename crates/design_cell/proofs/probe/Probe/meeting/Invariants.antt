-- The loop of `meeting`.
use Rattle.std.proofs.Common.{◌+◌, ℕ, List}
use Rattle.design_cell.specs.declared.row.RawRow.{RawRow}
use Rattle.design_cell.specs.Row.{row_at}
use Rattle.design_cell.specs.Index.{IsBlock, IsMask}
use Rattle.design_cell.specs.Probe.{IsProbe}
use Rattle.design_cell.specs.Meeting.{meet_below}
use Rattle.design_cell.proofs.probe.Probe.meeting.Given as goal

abbrev pub invariant-loop-c : goal.invariant-loop-c
invariant-loop-c l = (inputs : ℕ) (row : RawRow) (rows : List RawRow) (base : ℕ) → IsProbe inputs row l.self → IsBlock rows base l.block → IsMask (λ i. meet_below l.c row (row_at rows (base + i))) l.word
