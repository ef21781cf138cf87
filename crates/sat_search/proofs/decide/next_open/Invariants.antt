-- The variables so far have values.
use Rattle.std.proofs.Common.{ℕ, ◌≤◌, ◌<◌}
use Rattle.sat_search.specs.Decide.{HasValue}
use Rattle.sat_search.proofs.decide.next_open.Given as goal

abbrev pub invariant-loop-n : goal.invariant-loop-n
invariant-loop-n l = (m : ℕ) → l.from ≤ m → m < l.n → HasValue l.marks m
