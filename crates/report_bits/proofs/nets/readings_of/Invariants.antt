-- Each bit so far has its reading.
use Rattle.std.proofs.Common.{take}
use Rattle.report_bits.specs.Marked.{AreReadingsOf}
use Rattle.report_bits.proofs.nets.readings_of.Given as goal

abbrev pub invariant-bits : goal.invariant-bits
invariant-bits l = AreReadingsOf (take l.number l.nets) l.readings.items
