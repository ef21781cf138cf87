-- The run over ports with directions goes on from the ports and items so far.
use Rattle.std.proofs.Common.{◌≡◌, ◌≤◌, [], None, length}
use Rattle.netlist_grammar.specs.Machine.{goes, port_direction}
use Rattle.netlist_grammar.specs.Trees.{under}
use Rattle.netlist_grammar.specs.declared.tree.Source.{Source}
use Rattle.netlist_grammar.specs.declared.tree.Word.{Word}
use Rattle.netlist_reader.proofs.head.declared_ports.Given as goal

abbrev pub invariant-ports : goal.invariant-ports
invariant-ports l = record {
  reads : (b : Source) (n : Word)
      → goes (port_direction (under b n [] []) l.fn.what None) l.fn.tokens ≡ goes (port_direction (under b n l.head.ports.items l.head.items.items) l.direction.what l.direction.range) l.tokens;
  shortens : length l.tokens.tokens ≤ length l.fn.tokens.tokens;
}

abbrev pub decreases-ports : goal.decreases-ports
decreases-ports l = length l.tokens.tokens
