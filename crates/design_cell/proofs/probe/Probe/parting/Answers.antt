-- A state more.
use Rattle.std.proofs.Common.{◌+◌}
use Rattle.design_cell.specs.Row.{row_at}
use Rattle.design_cell.specs.Meeting.{part_at}
use Rattle.design_cell.proofs.Probes.{any_more, mask_none}
use Rattle.design_cell.proofs.probe.Probe.parting.Goals as goal

pub loop-state-init : goal.loop-state-init
loop-state-init c = λ inputs row rows base probe is. mask_none

pub loop-state-preserved : goal.loop-state-preserved
loop-state-preserved c = λ inputs row rows base probe is. any_more (λ i. part_at inputs row (row_at rows (base + i))) c.loop-state.state c.loop-state.word c.parting_at-word.result (c.loop-state.invariant inputs row rows base probe is) (c.parting_at-word.ensures inputs row rows base probe is)
