-- What was to come comes after the lines and turns so far.
use Rattle.std.proofs.Common.{◌≡◌, [], length}
use Rattle.cert_reader.specs.Machine.{within}
use Rattle.cert_reader.specs.Reading.{goes}
use Rattle.cert_reader.proofs.read.entries.Given as goal

abbrev pub invariant-lines : goal.invariant-lines
invariant-lines l = goes (within l.form l.head []) l.fn.lines ≡ goes (within l.form l.head l.entries.items) l.lines

abbrev pub decreases-lines : goal.decreases-lines
decreases-lines l = length l.lines.lines
