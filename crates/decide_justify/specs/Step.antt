-- What a search comes to.
use Rattle.std.specs.Prelude.{ℕ, ◌≤◌, ⊤, length}
use Rattle.decide_justify.specs.declared.step.Step.{Step}
use Rattle.decide_justify.specs.declared.step.Step.TheVariants.{Filling, Log, Nothing, Wanted}

-- A log has at most so many clauses.
abbrev pub HasAtMost : ℕ → Step → Type 0
HasAtMost most (Wanted node) = ⊤
HasAtMost most (Filling ones) = ⊤
HasAtMost most (Log clauses) = length clauses.items ≤ most
HasAtMost most Nothing = ⊤
