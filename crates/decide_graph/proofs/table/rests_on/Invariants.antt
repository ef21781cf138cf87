-- At the numbers so far the values don't differ.
use Rattle.std.proofs.Common.{◌≡◌, ◌<◌, ℕ, false}
use Rattle.decide_graph.specs.Table.{differs_at}
use Rattle.decide_graph.proofs.table.rests_on.Given as goal

abbrev pub invariant-numbers : goal.invariant-numbers
invariant-numbers l = (m : ℕ) → m < l.number → differs_at l.values l.bit m ≡ false
