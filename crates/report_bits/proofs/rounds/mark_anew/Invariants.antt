-- Each position behind the places so far is marked.
use Rattle.std.proofs.Common.{◌≡◌, ℕ, ◌<◌, length}
use Rattle.replay_fans.specs.Marks.{OnlyMore}
use Rattle.report_bits.specs.Marked.{IsMarkedAt}
use Rattle.wave_proved.specs.Contents.{job}
use Rattle.wave_proved.specs.Row.{anew_behind}
use Rattle.report_bits.proofs.rounds.mark_anew.Given as goal

abbrev pub invariant-places : goal.invariant-places
invariant-places l = record {
  long : length l.due ≡ length l.initial.due;
  more : OnlyMore l.initial.due l.due;
  marked : (position : ℕ) → position < anew_behind (job l.wave) l.step l.places l.anew-index
      → IsMarkedAt l.wave l.bits l.step l.due position;
}
