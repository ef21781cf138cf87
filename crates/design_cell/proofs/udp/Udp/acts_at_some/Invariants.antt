-- The loop of `acts_at_some`.
use Rattle.std.proofs.Common.{◌≡◌}
use Rattle.design_cell.specs.Clock.{acts_at}
use Rattle.design_cell.specs.Below.{any_below}
use Rattle.design_cell.proofs.udp.Udp.acts_at_some.Given as goal

abbrev pub invariant-loop-choice : goal.invariant-loop-choice
invariant-loop-choice l = l.any ≡ any_below l.choice (acts_at l.self l.dead l.pin)
