-- The names so far.
use Rattle.std.proofs.Common.{take}
use Rattle.netlist_trim.specs.Reached.{Grows, texts_of}
use Rattle.netlist_trim.proofs.needed.add_names.Given as goal

abbrev pub invariant-names : goal.invariant-names
invariant-names l = Grows l.library (texts_of (take l.name-index l.names)) l.fn.numbers l.numbers
