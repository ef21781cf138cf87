use Rattle.cert_condition.specs.View.{IsUnderWay}
use Rattle.cert_condition.proofs.made.finish.Given as goal

-- The turns so far are made, and the next ones are fewer.
abbrev pub invariant-turns : goal.invariant-turns
invariant-turns l = IsUnderWay l.initial.now l.now

abbrev pub decreases-turns : goal.decreases-turns
decreases-turns l = l.now.due
