-- The lines so far are idle.
use Rattle.std.proofs.Common.{◌≡◌, length}
use Rattle.sat_dimacs.specs.Machine.{header_in}
use Rattle.sat_dimacs.proofs.header.read_header.Given as goal

abbrev pub invariant-lines : goal.invariant-lines
invariant-lines l = header_in l.fn.lines.number l.fn.lines.lines ≡ header_in l.lines.number l.lines.lines

abbrev pub decreases-lines : goal.decreases-lines
decreases-lines l = length l.lines.lines
