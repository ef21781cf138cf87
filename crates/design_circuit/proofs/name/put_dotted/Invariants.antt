-- What is left to put leads to the whole.
use Rattle.std.proofs.Common.{◌≡◌, ◌++◌, drop}
use Rattle.design_circuit.specs.Name.{dotted_parts}
use Rattle.design_circuit.proofs.name.put_dotted.Given as goal

abbrev pub invariant-parts : goal.invariant-parts
invariant-parts l = l.text.items ++ dotted_parts (drop l.part-index l.parts) ≡ l.fn.text.items ++ dotted_parts l.parts
