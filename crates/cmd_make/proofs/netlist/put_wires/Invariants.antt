-- The nets so far.
use Rattle.std.proofs.Common.{◌≡◌, ◌++◌}
use Rattle.cmd_make.specs.Netlist.{wire_lines}
use Rattle.cmd_make.proofs.netlist.put_wires.Given as goal

abbrev pub invariant-gates : goal.invariant-gates
invariant-gates l = l.text.items ≡ l.fn.text.items ++ wire_lines l.gate
