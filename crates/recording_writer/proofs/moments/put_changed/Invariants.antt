-- The lines so far and those of what is left are all.
use Rattle.std.proofs.Common.{◌≡◌, ◌++◌, drop}
use Rattle.recording_writer.specs.Moments.{changed_lines}
use Rattle.recording_writer.specs.Rows.{end_before, moment_end}
use Rattle.recording_writer.proofs.moments.put_changed.Given as goal

abbrev pub invariant-variables : goal.invariant-variables
invariant-variables g l = l.text.items ++ changed_lines l.rows.history (moment_end l.rows) (end_before l.rows) l.number (drop l.number l.bound) ≡ l.fn.text.items ++ changed_lines l.rows.history (moment_end l.rows) (end_before l.rows) 0 l.bound
