-- What was to come comes after the lines so far.
use Rattle.std.proofs.Common.{◌≡◌, ◌+◌, length}
use Rattle.sat_dimacs.specs.Lines.{words_from}
use Rattle.sat_dimacs.specs.Machine.{reach}
use Rattle.sat_dimacs.proofs.read.read_lines.Given as goal

abbrev pub invariant-lines : goal.invariant-lines
invariant-lines l = record {
  reads : reach l.fn.start (words_from l.kind l.fn.lines.number l.fn.lines.lines)
      ≡ reach l.progress (words_from l.kind l.lines.number l.lines.lines);
  number : l.lines.number + length l.lines.lines ≡ l.fn.lines.number + length l.fn.lines.lines;
}

abbrev pub decreases-lines : goal.decreases-lines
decreases-lines l = length l.lines.lines
