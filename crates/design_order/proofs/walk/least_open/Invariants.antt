-- The loop of `least_open`.
use Rattle.std.proofs.Common.{◌≡◌, ◌<◌, ℕ, true}
use Rattle.design_order.specs.Progress.{flag_at}
use Rattle.design_order.proofs.walk.least_open.Given as goal

abbrev pub invariant-loop-net : goal.invariant-loop-net
invariant-loop-net l = (other : ℕ) → other < l.net → flag_at l.flags other ≡ true
