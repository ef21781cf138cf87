-- The steps so far are counted, and the ends are those of the last of them.
use Rattle.std.proofs.Common.{◌≡◌, ◌-◌, ◌*◌, ◌<◌, length}
use Rattle.report_bits.specs.Counts.{counts_below}
use Rattle.report_bits.specs.Ends.{AreEndsAt}
use Rattle.report_bits.specs.Finished.{AreRowsOf}
use Rattle.report_bits.proofs.counts.count_steps.Given as goal

abbrev pub invariant-steps : goal.invariant-steps
invariant-steps l = record {
  rows : AreRowsOf l.wave l.rows;
  counts : l.counts ≡ counts_below l.wave (l.step * length l.wave.design.nets);
  long : length l.ends.ends.items ≡ length l.wave.design.nets;
  last : 0 < l.step → AreEndsAt l.wave (l.step - 1) l.ends.ends.items;
}
