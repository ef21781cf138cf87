-- The files of the lines so far have come in, and what the tracer knows is right.
use Rattle.std.proofs.Common.{map, take}
use Rattle.decide_cone.specs.Known.{IsRightOf}
use Rattle.base_run.specs.Outputs.{file_of}
use Rattle.cert_export.specs.Adding.{Adds}
use Rattle.cert_export.specs.Export.{AreFiles}
use Rattle.cert_export.proofs.lines.put_lines.Given as goal

abbrev pub invariant-lines : goal.invariant-lines
invariant-lines l =
    Adds (AreFiles l.fn.wave l.fn.prefix 1 (take l.place l.lines)) (map file_of l.fn.outputs.items) (map file_of l.outputs.items)
    × IsRightOf l.fn.wave l.tracer
