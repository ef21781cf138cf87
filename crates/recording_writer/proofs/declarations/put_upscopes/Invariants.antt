-- The lines so far and those of what is left are all.
use Rattle.std.proofs.Common.{◌≡◌, ◌++◌, drop}
use Rattle.std.specs.List.{flat_map}
use Rattle.recording_writer.specs.Declarations.{upscope_line}
use Rattle.recording_writer.proofs.declarations.put_upscopes.Given as goal

abbrev pub invariant-names : goal.invariant-names
invariant-names l = l.text.items ++ flat_map upscope_line (drop l.index l.names) ≡ l.fn.text.items ++ flat_map upscope_line l.names
