-- The state after the draws so far.
use Rattle.std.proofs.Common.{◌≡◌}
use Rattle.cmd_make.specs.Draw.{after_draws}
use Rattle.cmd_make.proofs.stimulus.pass_draws.Given as goal

abbrev pub invariant-draws : goal.invariant-draws
invariant-draws l = l.draws.state ≡ after_draws l.counter l.fn.draws.state
