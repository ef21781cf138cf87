-- Each round so far keeps the letters of what isn't due.
use Rattle.std.proofs.Common.{◌≡◌, ℕ, ◌+◌, ◌-◌, ◌<◌, length}
use Rattle.replay_fans.specs.Marks.{OnlyMore}
use Rattle.recording_writer.specs.Readers.{KeepLetters}
use Rattle.recording_writer.proofs.marked.mark_rounds.Given as goal

abbrev pub invariant-rounds : goal.invariant-rounds
invariant-rounds g l = record {
  long : length l.due ≡ length l.initial.due;
  more : OnlyMore l.initial.due l.due;
  kept : (r : ℕ) → r < l.round → KeepLetters (g.R.Shown.view l.row).history l.readers.table (l.first + r - 1) (l.first + r) l.due;
}
