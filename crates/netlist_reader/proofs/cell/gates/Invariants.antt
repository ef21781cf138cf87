-- The run over gates of one kind goes on from the items so far.
use Rattle.std.proofs.Common.{◌≡◌, ◌≤◌, List, length}
use Rattle.netlist_grammar.specs.Machine.{goes, gate_kind, gate_name}
use Rattle.netlist_grammar.specs.Trees.{under}
use Rattle.netlist_grammar.specs.declared.tree.Source.{Source}
use Rattle.netlist_grammar.specs.declared.tree.Word.{Word}
use Rattle.netlist_reader.proofs.cell.gates.Given as goal

abbrev pub invariant-gates : goal.invariant-gates
invariant-gates l = record {
  reads : (b : Source) (n : Word) (ps : List Word)
      → goes (gate_kind (under b n ps l.fn.items.items) l.kind l.at) l.fn.tokens ≡ goes (gate_name (under b n ps l.items.items) l.kind l.at) l.tokens;
  shortens : length l.tokens.tokens ≤ length l.fn.tokens.tokens;
}

abbrev pub decreases-gates : goal.decreases-gates
decreases-gates l = length l.tokens.tokens
