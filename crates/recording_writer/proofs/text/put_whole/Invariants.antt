-- The lines so far and those of the moments that are left are all, and the rows stand at the next one.
use Rattle.std.proofs.Common.{◌≡◌, ◌++◌, drop}
use Rattle.recording_writer.specs.Moments.{lines_from}
use Rattle.recording_writer.specs.Rows.{moment_view}
use Rattle.recording_writer.proofs.text.put_whole.Given as goal

abbrev pub invariant-moments : goal.invariant-moments
invariant-moments g l = record {
  rows : l.rows ≡ moment_view l.fn.rows.history l.stim.rounds l.time-index;
  lines : l.text.items ++ lines_from l.fn.rows.history l.stim.rounds l.bound l.time-index (drop l.time-index l.stim.times) ≡ l.fn.text.items ++ lines_from l.fn.rows.history l.stim.rounds l.bound 0 l.stim.times;
}
