-- A pair of values more.
use Rattle.std.proofs.Common.{◌≡◌, ◌+◌, arith, subst}
use Rattle.design_cell.specs.Row.{row_at, symbol_at}
use Rattle.design_cell.specs.Below.{any_below}
use Rattle.design_cell.specs.Index.{IsMask}
use Rattle.design_cell.specs.Meeting.{meet_at, meet}
use Rattle.design_cell.proofs.Probes.{any_more, mask_none}
use Rattle.design_cell.proofs.probe.Probe.meeting_at.Goals as goal

pub loop-pair-init : goal.loop-pair-init
loop-pair-init c = λ inputs row rows base probe is. mask_none

pub loop-pair-preserved : goal.loop-pair-preserved
loop-pair-preserved c = λ inputs row rows base probe is. any_more (λ i. meet_at (symbol_at row c.args.c) (symbol_at (row_at rows (base + i)) c.args.c)) c.loop-pair.pair c.loop-pair.word c.taking-word.result (c.loop-pair.invariant inputs row rows base probe is) (c.taking-word.ensures inputs row rows base probe is)

pub returns : goal.returns
unfolding meet
returns c = λ inputs row rows base probe is.
    let end : c.loop-pair.pair ≡ 9 = omega arith in
    subst (λ n. IsMask (λ i. any_below n (meet_at (symbol_at row c.args.c) (symbol_at (row_at rows (base + i)) c.args.c))) c.loop-pair.word) end (c.loop-pair.invariant inputs row rows base probe is)
