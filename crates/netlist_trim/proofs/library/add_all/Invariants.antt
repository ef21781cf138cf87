-- The definitions so far.
use Rattle.std.proofs.Common.{take}
use Rattle.netlist_trim.specs.Library.{Finds}
use Rattle.netlist_trim.proofs.library.add_all.Given as goal

abbrev pub invariant-definitions : goal.invariant-definitions
invariant-definitions l = Finds l.numbers (take l.number l.definitions)
