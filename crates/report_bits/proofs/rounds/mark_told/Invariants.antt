-- Each bit that isn't due has after the rounds so far what it had before the first.
use Rattle.std.proofs.Common.{◌≡◌, ◌+◌, ◌-◌, length}
use Rattle.report_bits.specs.Marked.{SameUnlessDue}
use Rattle.report_bits.proofs.rounds.mark_told.Given as goal

abbrev pub invariant-rounds : goal.invariant-rounds
invariant-rounds l = record {
  long : length l.due ≡ length l.initial.due;
  same : SameUnlessDue l.wave l.bits.nets.items (l.first - 1) (l.first + l.round - 1) l.due;
}
