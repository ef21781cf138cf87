-- The state after the gates so far.
use Rattle.std.proofs.Common.{◌≡◌}
use Rattle.cmd_make.specs.Netlist.{after_gates}
use Rattle.cmd_make.proofs.stimulus.pass_gates.Given as goal

abbrev pub invariant-gates : goal.invariant-gates
invariant-gates l = l.draws.state ≡ after_gates l.fn.draws.state l.counter
