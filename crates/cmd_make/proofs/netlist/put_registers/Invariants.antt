-- The registers so far, and the state after their draws.
use Rattle.std.proofs.Common.{◌≡◌, ◌++◌}
use Rattle.cmd_make.specs.Draw.{after_draws}
use Rattle.cmd_make.specs.Netlist.{register_lines}
use Rattle.cmd_make.specs.Pool.{pool_of}
use Rattle.cmd_make.proofs.netlist.put_registers.Given as goal

abbrev pub invariant-registers : goal.invariant-registers
invariant-registers l = record {
  text : l.text.items ≡ l.fn.text.items ++ register_lines (pool_of l.gates) l.fn.draws.state l.register;
  after : l.draws.state ≡ after_draws l.register l.fn.draws.state;
}
