-- The run over the items of a module goes on from the items so far.
use Rattle.std.proofs.Common.{◌≡◌, ◌≤◌, List, length}
use Rattle.netlist_grammar.specs.Machine.{goes, in_items}
use Rattle.netlist_grammar.specs.Trees.{under}
use Rattle.netlist_grammar.specs.declared.tree.Source.{Source}
use Rattle.netlist_grammar.specs.declared.tree.Word.{Word}
use Rattle.netlist_reader.proofs.module.fill.Given as goal

abbrev pub invariant-items : goal.invariant-items
invariant-items l = record {
  reads : (b : Source) (n : Word) (ps : List Word)
      → goes (in_items (under b n ps l.fn.items.items)) l.fn.tokens ≡ goes (in_items (under b n ps l.items.items)) l.tokens;
  shortens : length l.tokens.tokens ≤ length l.fn.tokens.tokens;
}

abbrev pub decreases-items : goal.decreases-items
decreases-items l = length l.tokens.tokens
