-- The times so far.
use Rattle.std.proofs.Common.{◌≡◌}
use Rattle.cmd_make.specs.Stimulus.{times_of}
use Rattle.cmd_make.proofs.stimulus.times_of.Given as goal

abbrev pub invariant-moments : goal.invariant-moments
invariant-moments l = l.times.items ≡ times_of l.moment
