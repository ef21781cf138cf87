-- Each bit that was unknown after the rounds so far is due.
use Rattle.std.proofs.Common.{◌≡◌, ◌+◌, ◌-◌, length}
use Rattle.report_bits.specs.Marked.{KnownUnlessDue}
use Rattle.report_bits.proofs.rounds.mark_unknown.Given as goal

abbrev pub invariant-rounds : goal.invariant-rounds
invariant-rounds l = record {
  long : length l.due ≡ length l.initial.due;
  known : KnownUnlessDue l.wave l.bits.nets.items (l.first + l.round - 1) l.due;
}
