-- The run over declared inputs goes on from the pins and declarations so far.
use Rattle.std.proofs.Common.{◌≡◌, ◌<◌, [], length}
use Rattle.netlist_grammar.specs.Machine.{goes, first_input, input_name}
use Rattle.netlist_grammar.specs.Trees.{within}
use Rattle.netlist_grammar.specs.declared.tree.Source.{Source}
use Rattle.netlist_grammar.specs.declared.tree.Word.{Word}
use Rattle.netlist_reader.proofs.primitive.input_pins.Given as goal

abbrev pub invariant-inputs : goal.invariant-inputs
invariant-inputs l = record {
  reads : (b : Source) (n : Word)
      → goes (first_input (within b n l.fn.ports.items l.fn.declarations.items [])) l.fn.tokens ≡ goes (input_name (within b n l.ports.items l.declarations.items [])) l.tokens;
  shortens : length l.tokens.tokens < length l.fn.tokens.tokens;
}

abbrev pub decreases-inputs : goal.decreases-inputs
decreases-inputs l = length l.tokens.tokens
