-- The text so far and the literals that are left are all.
use Rattle.std.proofs.Common.{◌≡◌, ◌++◌, drop}
use Rattle.std.specs.List.{flat_map}
use Rattle.sat_dimacs.specs.Text.{literal_text}
use Rattle.sat_dimacs.proofs.write.put_literals.Given as goal

abbrev pub invariant-literals : goal.invariant-literals
invariant-literals l =
    l.text.items ++ flat_map literal_text (drop l.literal-index l.literals)
    ≡ l.fn.text.items ++ flat_map literal_text l.literals
