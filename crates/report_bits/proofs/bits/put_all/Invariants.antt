-- The lines so far and those of the bits that are left are all, each bit that is left is there, and what they are made
-- from is the wave's.
use Rattle.std.proofs.Common.{◌≡◌, ◌++◌, length}
use Rattle.std.specs.List.{AllByRecursion, flat_map}
use Rattle.recording_binding.specs.BoundBits.{bound_bits, left_of}
use Rattle.report_bits.specs.Bits.{bound_line}
use Rattle.report_bits.specs.Finished.{IsWriterOf}
use Rattle.report_bits.specs.Lines.{IsBitIn, moment_count}
use Rattle.report_bits.proofs.bits.put_all.Given as goal

abbrev pub invariant-bits : goal.invariant-bits
invariant-bits l = record {
  lines : l.writer.text.items ++ flat_map (bound_line l.from.wave.now l.from.lines) (left_of l.bits)
      ≡ l.fn.writer.text.items
      ++ flat_map (bound_line l.from.wave.now l.from.lines) (bound_bits (moment_count l.from) l.bound.bound);
  within : AllByRecursion (IsBitIn l.from) (left_of l.bits);
  writer : IsWriterOf l.from.wave.now l.writer;
}

abbrev pub decreases-bits : goal.decreases-bits
decreases-bits l = length (left_of l.bits)
