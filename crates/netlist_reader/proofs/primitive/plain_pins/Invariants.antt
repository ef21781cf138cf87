-- The run over pins without directions goes on from the pins so far.
use Rattle.std.proofs.Common.{◌≡◌, ◌≤◌, length}
use Rattle.netlist_grammar.specs.Machine.{goes, first_pin, pin}
use Rattle.netlist_grammar.specs.declared.tree.Source.{Source}
use Rattle.netlist_grammar.specs.declared.tree.Word.{Word}
use Rattle.netlist_reader.proofs.primitive.plain_pins.Given as goal

abbrev pub invariant-pins : goal.invariant-pins
invariant-pins l = record {
  reads : (b : Source) (n : Word) → goes (first_pin b n) l.fn.tokens ≡ goes (pin b n l.ports.items) l.tokens;
  shortens : length l.tokens.tokens ≤ length l.fn.tokens.tokens;
}

abbrev pub decreases-pins : goal.decreases-pins
decreases-pins l = length l.tokens.tokens
