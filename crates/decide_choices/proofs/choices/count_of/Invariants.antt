use Rattle.std.proofs.Common.{◌≢◌, ◌<◌, ◌^◌, ℕ, length}
use Rattle.decide_choices.proofs.choices.count_of.Given as goal

abbrev pub invariant-counts : goal.invariant-counts
invariant-counts l = (k : ℕ) → k < l.count → length l.values ≢ 2 ^ k
