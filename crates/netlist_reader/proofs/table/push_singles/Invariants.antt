-- The symbols so far and those of the rest are all the symbols.
use Rattle.std.proofs.Common.{◌≡◌, ◌++◌, ◌∷◌, length}
use Rattle.netlist_grammar.specs.Trees.{singles}
use Rattle.netlist_reader.proofs.table.push_singles.Given as goal

abbrev pub invariant-symbols : goal.invariant-symbols
invariant-symbols l = l.fn.entries.items ++ singles (l.first ∷ l.more) ≡ l.entries.items ++ singles l.rest

abbrev pub decreases-symbols : goal.decreases-symbols
decreases-symbols l = length l.rest
