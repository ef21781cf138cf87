-- The run over named connections goes on from those so far.
use Rattle.std.proofs.Common.{◌≡◌, ◌≤◌, [], Option, length}
use Rattle.netlist_grammar.specs.Machine.{goes, connection_port}
use Rattle.netlist_grammar.specs.Trees.{Under}
use Rattle.netlist_grammar.specs.declared.tree.Word.{Word}
use Rattle.netlist_reader.proofs.cell.named.Given as goal

abbrev pub invariant-list : goal.invariant-list
invariant-list l = record {
  reads : (u : Under) (d : Word) (n : Option Word) → goes (connection_port u d n []) l.fn.tokens ≡ goes (connection_port u d n l.list.items) l.tokens;
  shortens : length l.tokens.tokens ≤ length l.fn.tokens.tokens;
}

abbrev pub decreases-list : goal.decreases-list
decreases-list l = length l.tokens.tokens
