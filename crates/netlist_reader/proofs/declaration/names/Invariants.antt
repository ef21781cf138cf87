-- The run over the names of a port declaration goes on from the items so far.
use Rattle.std.proofs.Common.{◌≡◌, ◌≤◌, List, length}
use Rattle.netlist_grammar.specs.Machine.{goes, declared_name}
use Rattle.netlist_grammar.specs.Trees.{under}
use Rattle.netlist_grammar.specs.declared.tree.Source.{Source}
use Rattle.netlist_grammar.specs.declared.tree.Word.{Word}
use Rattle.netlist_reader.proofs.declaration.names.Given as goal

abbrev pub invariant-names : goal.invariant-names
invariant-names l = record {
  reads : (b : Source) (n : Word) (ps : List Word)
      → goes (declared_name (under b n ps l.fn.items.items) l.what l.range) l.fn.tokens ≡ goes (declared_name (under b n ps l.items.items) l.what l.range) l.tokens;
  shortens : length l.tokens.tokens ≤ length l.fn.tokens.tokens;
}

abbrev pub decreases-names : goal.decreases-names
decreases-names l = length l.tokens.tokens
