-- The letters so far and those of what is left are all.
use Rattle.std.proofs.Common.{◌≡◌, ◌++◌, drop, map}
use Rattle.recording_writer.specs.Moments.{letter_at}
use Rattle.recording_writer.proofs.moments.put_letters.Given as goal

abbrev pub invariant-bits : goal.invariant-bits
invariant-bits g l = l.text.items ++ map (letter_at (g.R.Shown.view l.row).history (g.R.Shown.view l.row).step) (drop l.net-index l.bits) ≡ l.fn.text.items ++ map (letter_at (g.R.Shown.view l.row).history (g.R.Shown.view l.row).step) l.bits
