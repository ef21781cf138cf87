-- The run over the nets of a declaration goes on from the items so far.
use Rattle.std.proofs.Common.{◌≡◌, ◌≤◌, List, length}
use Rattle.netlist_grammar.specs.Machine.{goes, net_kind, net_name}
use Rattle.netlist_grammar.specs.Trees.{under}
use Rattle.netlist_grammar.specs.declared.tree.Source.{Source}
use Rattle.netlist_grammar.specs.declared.tree.Word.{Word}
use Rattle.netlist_reader.proofs.declaration.nets.Given as goal

abbrev pub invariant-nets : goal.invariant-nets
invariant-nets l = record {
  reads : (b : Source) (n : Word) (ps : List Word)
      → goes (net_kind (under b n ps l.fn.items.items) l.what) l.fn.tokens ≡ goes (net_name (under b n ps l.items.items) l.what l.range) l.tokens;
  shortens : length l.tokens.tokens ≤ length l.fn.tokens.tokens;
}

abbrev pub decreases-nets : goal.decreases-nets
decreases-nets l = length l.tokens.tokens
