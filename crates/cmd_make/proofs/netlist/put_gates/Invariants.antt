-- The gates so far, and the state after them.
use Rattle.std.proofs.Common.{◌≡◌, ◌++◌}
use Rattle.cmd_make.specs.Netlist.{after_gates, gate_lines}
use Rattle.cmd_make.proofs.netlist.put_gates.Given as goal

abbrev pub invariant-gates : goal.invariant-gates
invariant-gates l = record {
  text : l.text.items ≡ l.fn.text.items ++ gate_lines l.fn.draws.state l.gate;
  after : l.draws.state ≡ after_gates l.fn.draws.state l.gate;
}
