-- The run over the terminals of a gate goes on from those so far.
use Rattle.std.proofs.Common.{◌≡◌, ◌≤◌, [], ℕ, length}
use Rattle.netlist_grammar.specs.Machine.{goes, expr_start, terminal}
use Rattle.netlist_grammar.specs.Trees.{Under}
use Rattle.netlist_grammar.specs.declared.tree.GateKind.{GateKind}
use Rattle.netlist_reader.proofs.cell.terminals.Given as goal

abbrev pub invariant-list : goal.invariant-list
invariant-list l = record {
  reads : (u : Under) (kind : GateKind) (at : ℕ)
      → goes (expr_start (terminal u kind at [])) l.fn.tokens ≡ goes (expr_start (terminal u kind at l.list.items)) l.tokens;
  shortens : length l.tokens.tokens ≤ length l.fn.tokens.tokens;
}

abbrev pub decreases-list : goal.decreases-list
decreases-list l = length l.tokens.tokens
