-- The run over the declarations of a primitive goes on from those so far.
use Rattle.std.proofs.Common.{◌≡◌, ◌<◌, [], List, length}
use Rattle.netlist_grammar.specs.Machine.{goes, primitive_head_end, in_primitive}
use Rattle.netlist_grammar.specs.Trees.{within}
use Rattle.netlist_grammar.specs.declared.tree.Source.{Source}
use Rattle.netlist_grammar.specs.declared.tree.Word.{Word}
use Rattle.netlist_reader.proofs.primitive.declare_all.Given as goal

abbrev pub invariant-declarations : goal.invariant-declarations
invariant-declarations l = record {
  reads : (b : Source) (n : Word) (ps : List Word)
      → goes (primitive_head_end (within b n ps l.fn.declarations.items [])) l.fn.tokens ≡ goes (in_primitive (within b n ps l.declarations.items [])) l.tokens;
  shortens : length l.tokens.tokens < length l.fn.tokens.tokens;
}

abbrev pub decreases-declarations : goal.decreases-declarations
decreases-declarations l = length l.tokens.tokens
