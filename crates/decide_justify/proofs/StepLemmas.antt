-- Facts about what a search comes to.
use Rattle.std.proofs.Common.{ℕ, ◌≤◌, arith}
use Rattle.decide_justify.specs.declared.step.Step.{Step}
use Rattle.decide_justify.specs.declared.step.Step.TheVariants.{Filling, Log, Nothing, Wanted}
use Rattle.decide_justify.specs.Step.{HasAtMost}

-- What has at most so many clauses has at most more.
pub at_most_more : (a b : ℕ) (step : Step) → HasAtMost a step → a ≤ b → HasAtMost b step
at_most_more a b (Wanted node) h le = h
at_most_more a b (Filling ones) h le = h
at_most_more a b (Log clauses) h le = omega arith
at_most_more a b Nothing h le = h
