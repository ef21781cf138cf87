-- A column more.
use Rattle.std.proofs.Common.{◌≡◌, ◌∙◌, ◌+◌, arith, subst}
use Rattle.design_cell.specs.Row.{row_at}
use Rattle.design_cell.specs.Index.{IsMask}
use Rattle.design_cell.specs.Meeting.{meet_below}
use Rattle.design_cell.proofs.Masks.{mask_max}
use Rattle.design_cell.proofs.Probes.{meet_more}
use Rattle.design_cell.proofs.probe.Probe.meeting.Goals as goal

pub loop-c-init : goal.loop-c-init
loop-c-init c = λ inputs row rows base probe is. mask_max

pub loop-c-preserved : goal.loop-c-preserved
loop-c-preserved c = λ inputs row rows base probe is. meet_more row rows base c.loop-c.c c.loop-c.word c.meeting_at-word.result (c.loop-c.invariant inputs row rows base probe is) (c.meeting_at-word.ensures inputs row rows base probe is)

pub returns : goal.returns
returns c = λ inputs row rows base probe is.
    let all : c.loop-c.c ≡ c.args.self.now.inputs = omega arith in
    subst (λ n. IsMask (λ i. meet_below n row (row_at rows (base + i))) c.loop-c.word) (all ∙ probe.columns) (c.loop-c.invariant inputs row rows base probe is)
