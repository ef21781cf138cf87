-- The run over the names of an input declaration goes on from the declarations so far.
use Rattle.std.proofs.Common.{◌≡◌, ◌≤◌, [], List, length}
use Rattle.netlist_grammar.specs.Machine.{goes, input_declared}
use Rattle.netlist_grammar.specs.Trees.{within}
use Rattle.netlist_grammar.specs.declared.tree.Source.{Source}
use Rattle.netlist_grammar.specs.declared.tree.Word.{Word}
use Rattle.netlist_reader.proofs.primitive.inputs.Given as goal

abbrev pub invariant-inputs : goal.invariant-inputs
invariant-inputs l = record {
  reads : (b : Source) (n : Word) (ps : List Word)
      → goes (input_declared (within b n ps l.fn.declarations.items [])) l.fn.tokens ≡ goes (input_declared (within b n ps l.declarations.items [])) l.tokens;
  shortens : length l.tokens.tokens ≤ length l.fn.tokens.tokens;
}

abbrev pub decreases-inputs : goal.decreases-inputs
decreases-inputs l = length l.tokens.tokens
