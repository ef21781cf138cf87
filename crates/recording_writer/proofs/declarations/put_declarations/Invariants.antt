-- The lines so far and those of what is left, from the scope of the variable before, are all.
use Rattle.std.proofs.Common.{◌≡◌, ◌++◌, [], drop}
use Rattle.recording_writer.specs.Declarations.{declaration_lines}
use Rattle.recording_writer.proofs.declarations.put_declarations.Given as goal

abbrev pub invariant-variables : goal.invariant-variables
invariant-variables l = l.text.items ++ declaration_lines l.design l.present l.number (drop l.number l.bound) ≡ l.fn.text.items ++ declaration_lines l.design [] 0 l.bound
