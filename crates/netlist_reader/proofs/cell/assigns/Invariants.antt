-- The run over assignments goes on from the items so far.
use Rattle.std.proofs.Common.{◌≡◌, ◌≤◌, List, length}
use Rattle.netlist_grammar.specs.Machine.{goes, assign, expr_start, left}
use Rattle.netlist_grammar.specs.Trees.{under}
use Rattle.netlist_grammar.specs.declared.tree.Source.{Source}
use Rattle.netlist_grammar.specs.declared.tree.Word.{Word}
use Rattle.netlist_reader.proofs.cell.assigns.Given as goal

abbrev pub invariant-assigns : goal.invariant-assigns
invariant-assigns l = record {
  reads : (b : Source) (n : Word) (ps : List Word)
      → goes (assign (under b n ps l.fn.items.items)) l.fn.tokens ≡ goes (expr_start (left (under b n ps l.items.items))) l.tokens;
  shortens : length l.tokens.tokens ≤ length l.fn.tokens.tokens;
}

abbrev pub decreases-assigns : goal.decreases-assigns
decreases-assigns l = length l.tokens.tokens
