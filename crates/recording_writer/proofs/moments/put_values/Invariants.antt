-- The lines so far and those of what is left are all.
use Rattle.std.proofs.Common.{◌≡◌, ◌++◌, drop}
use Rattle.recording_writer.specs.Moments.{value_lines}
use Rattle.recording_writer.proofs.moments.put_values.Given as goal

abbrev pub invariant-variables : goal.invariant-variables
invariant-variables g l = l.text.items ++ value_lines (g.R.Shown.view l.row).history (g.R.Shown.view l.row).step l.number (drop l.number l.bound) ≡ l.fn.text.items ++ value_lines (g.R.Shown.view l.row).history (g.R.Shown.view l.row).step 0 l.bound
