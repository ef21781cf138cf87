-- The bits so far show the same.
use Rattle.std.proofs.Common.{◌≡◌, drop}
use Rattle.recording_writer.specs.Moments.{are_same}
use Rattle.recording_writer.proofs.moments.is_same.Given as goal

abbrev pub invariant-bits : goal.invariant-bits
invariant-bits g l = are_same (g.R.Shown.view l.row).history (g.R.Shown.view l.row).step (g.R.Shown.view l.before).step l.bits ≡ are_same (g.R.Shown.view l.row).history (g.R.Shown.view l.row).step (g.R.Shown.view l.before).step (drop l.net-index l.bits)
