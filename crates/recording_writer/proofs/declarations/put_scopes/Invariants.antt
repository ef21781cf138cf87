-- The lines so far and those of what is left are all.
use Rattle.std.proofs.Common.{◌≡◌, ◌++◌, drop}
use Rattle.std.specs.List.{flat_map}
use Rattle.recording_writer.specs.Declarations.{scope_line}
use Rattle.recording_writer.proofs.declarations.put_scopes.Given as goal

abbrev pub invariant-names : goal.invariant-names
invariant-names l = l.text.items ++ flat_map scope_line (drop l.name-index l.names) ≡ l.fn.text.items ++ flat_map scope_line l.names
