-- The run over ports without directions goes on from the ports so far.
use Rattle.std.proofs.Common.{◌≡◌, ◌≤◌, length}
use Rattle.netlist_grammar.specs.Machine.{goes, first_port, port}
use Rattle.netlist_grammar.specs.declared.tree.Source.{Source}
use Rattle.netlist_grammar.specs.declared.tree.Word.{Word}
use Rattle.netlist_reader.proofs.head.plain_ports.Given as goal

abbrev pub invariant-ports : goal.invariant-ports
invariant-ports l = record {
  reads : (b : Source) (n : Word) → goes (first_port b n) l.fn.tokens ≡ goes (port b n l.ports.items) l.tokens;
  shortens : length l.tokens.tokens ≤ length l.fn.tokens.tokens;
}

abbrev pub decreases-ports : goal.decreases-ports
decreases-ports l = length l.tokens.tokens
