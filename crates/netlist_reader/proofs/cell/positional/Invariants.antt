-- The run over connections by position goes on from those so far.
use Rattle.std.proofs.Common.{◌≡◌, ◌≤◌, [], Option, length}
use Rattle.netlist_grammar.specs.Machine.{goes, connection}
use Rattle.netlist_grammar.specs.Trees.{Under}
use Rattle.netlist_grammar.specs.declared.tree.Word.{Word}
use Rattle.netlist_reader.proofs.cell.positional.Given as goal

abbrev pub invariant-list : goal.invariant-list
invariant-list l = record {
  reads : (u : Under) (d : Word) (n : Option Word) → goes (connection u d n []) l.fn.tokens ≡ goes (connection u d n l.list.items) l.tokens;
  shortens : length l.tokens.tokens ≤ length l.fn.tokens.tokens;
}

abbrev pub decreases-list : goal.decreases-list
decreases-list l = length l.tokens.tokens
