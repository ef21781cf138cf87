-- The lines so far and those of the moments that are left are all, and with the lines of all moments each bit that was
-- unknown in the moment before is due.
use Rattle.std.proofs.Common.{◌≡◌, ◌-◌, ◌<◌, ◌++◌}
use Rattle.replay_due.specs.Due.{HasRoomFor}
use Rattle.report_bits.specs.Finished.{IsWriterOf}
use Rattle.report_bits.specs.Lines.{moment_count, step_in}
use Rattle.report_bits.specs.Marked.{KnownUnlessDue, moments_lines}
use Rattle.report_bits.specs.declared.lines.ReportLines.TheVariants as named
use Rattle.report_bits.proofs.marked.put_moments.Given as goal

abbrev pub invariant-moments : goal.invariant-moments
invariant-moments l = record {
  lines : l.writer.text.items ++ moments_lines l.from.wave.now l.from.lines l.bits.nets.items l.moment
      (moment_count l.from - l.moment)
      ≡ l.fn.writer.text.items
      ++ moments_lines l.from.wave.now l.from.lines l.bits.nets.items 0 (moment_count l.from);
  writer : IsWriterOf l.from.wave.now l.writer;
  due : HasRoomFor l.due l.bits.room;
  unknown : HasRoomFor l.unknown l.bits.room;
  before : l.from.lines ≡ named.All → 0 < l.moment
      → KnownUnlessDue l.from.wave.now l.bits.nets.items (step_in l.from (l.moment - 1)) l.due;
}
