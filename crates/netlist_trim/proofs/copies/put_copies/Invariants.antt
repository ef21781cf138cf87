-- The copies of those so far, and then of the others.
use Rattle.std.proofs.Common.{◌≡◌, ◌++◌, drop}
use Rattle.netlist_trim.specs.Copies.{copies}
use Rattle.netlist_trim.proofs.copies.put_copies.Given as goal

abbrev pub invariant-definitions : goal.invariant-definitions
invariant-definitions l =
    l.out.items ++ copies l.text l.library l.numbers (drop l.definition-index l.definitions) ≡ l.fn.out.items ++ copies l.text l.library l.numbers l.definitions
