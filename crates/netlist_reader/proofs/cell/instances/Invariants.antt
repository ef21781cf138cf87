-- The run over instances of one definition goes on from the items so far.
use Rattle.std.proofs.Common.{◌≡◌, ◌≤◌, List, length}
use Rattle.netlist_grammar.specs.Machine.{goes, definition, instance_name}
use Rattle.netlist_grammar.specs.Trees.{under}
use Rattle.netlist_grammar.specs.declared.tree.Source.{Source}
use Rattle.netlist_grammar.specs.declared.tree.Word.{Word}
use Rattle.netlist_reader.specs.Shown.{word_of_name}
use Rattle.netlist_reader.proofs.cell.instances.Given as goal

abbrev pub invariant-instances : goal.invariant-instances
invariant-instances l = record {
  reads : (b : Source) (n : Word) (ps : List Word)
      → goes (definition (under b n ps l.fn.items.items) (word_of_name l.definition)) l.fn.tokens ≡ goes (instance_name (under b n ps l.items.items) (word_of_name l.definition)) l.tokens;
  shortens : length l.tokens.tokens ≤ length l.fn.tokens.tokens;
}

abbrev pub decreases-instances : goal.decreases-instances
decreases-instances l = length l.tokens.tokens
