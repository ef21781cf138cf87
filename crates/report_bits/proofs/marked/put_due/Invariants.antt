-- The lines so far and those of the bits that are left are all, and those so far that are unknown are marked, where all
-- that are unknown are due.
use Rattle.std.proofs.Common.{◌≡◌, ◌-◌, ◌++◌, drop, length}
use Rattle.report_bits.specs.Finished.{IsWriterOf}
use Rattle.report_bits.specs.Lines.{KnownHere, KnownHereTo, lines_here}
use Rattle.report_bits.specs.Marked.{moment_lines}
use Rattle.report_bits.proofs.marked.put_due.Given as goal

abbrev pub invariant-bits : goal.invariant-bits
invariant-bits l = record {
  lines : l.writer.text.items
      ++ moment_lines l.here.from.wave.now l.here.from.lines l.here.moment (drop l.number l.here.nets.now)
      ≡ l.fn.writer.text.items ++ lines_here l.here;
  writer : IsWriterOf l.here.from.wave.now l.writer;
  long : length l.unknown ≡ length l.fn.unknown;
  unknown : KnownHere l.here l.due → KnownHereTo l.here l.number l.unknown;
}

abbrev pub decreases-bits : goal.decreases-bits
decreases-bits l = length l.here.nets.now - l.number
