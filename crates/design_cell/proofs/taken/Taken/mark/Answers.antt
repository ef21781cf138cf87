-- One part more.
use Rattle.std.proofs.Common.{arith, add-one}
use Rattle.design_cell.specs.Below.{any_below}
use Rattle.design_cell.specs.Marks.{covers_high}
use Rattle.design_cell.proofs.Lookups.{marks_more}
use Rattle.design_cell.proofs.taken.Taken.mark.Goals as goal

pub loop-high-preserved : goal.loop-high-preserved
loop-high-preserved c = record {
  room = omega arith;
  marks = rw add-one (marks_more c.args.seen.now c.loop-high.seen c.mark_high.new.seen (λ p. any_below c.loop-high.high (covers_high c.args.self.now p)) (λ p. covers_high c.args.self.now p c.loop-high.high) c.args.self.now.low c.loop-high.invariant.marks c.mark_high.ensures.marks);
}
