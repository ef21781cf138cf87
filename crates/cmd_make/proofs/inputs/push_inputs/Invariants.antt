-- The inputs so far, and the state after them.
use Rattle.std.proofs.Common.{◌≡◌, ◌++◌}
use Rattle.cmd_make.specs.Stimulus.{after_inputs, drawn_inputs}
use Rattle.cmd_make.proofs.inputs.push_inputs.Given as goal

abbrev pub invariant-inputs : goal.invariant-inputs
invariant-inputs l = record {
  values : l.values.items ≡ l.fn.values.items ++ drawn_inputs l.fn.draws.state l.counter;
  after : l.draws.state ≡ after_inputs l.fn.draws.state l.counter;
}
