-- One part more.
use Rattle.std.proofs.Common.{arith, add-one}
use Rattle.design_cell.specs.Below.{any_below}
use Rattle.design_cell.specs.Marks.{covers_middle}
use Rattle.design_cell.proofs.Lookups.{marks_more}
use Rattle.design_cell.proofs.taken.Taken.mark_middles.Goals as goal

pub loop-middle-preserved : goal.loop-middle-preserved
loop-middle-preserved c = record {
  room = omega arith;
  marks = rw add-one (marks_more c.args.seen.now c.loop-middle.seen c.mark_middle.new.seen (λ p. any_below c.loop-middle.middle (covers_middle c.args.self.now p c.args.high)) (λ p. covers_middle c.args.self.now p c.args.high c.loop-middle.middle) c.args.self.now.low c.loop-middle.invariant.marks c.mark_middle.ensures.marks);
}
