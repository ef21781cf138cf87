-- The marks so far are those of the first nodes.
use Rattle.std.proofs.Common.{◌≡◌, ℕ, ◌<◌, false, length, take}
use Rattle.std.specs.List.{slice_index_or}
use Rattle.decide_guess.specs.Renamed.{has_one}
use Rattle.decide_guess.proofs.renamed.given_by.Given as goal

abbrev pub invariant-ones : goal.invariant-ones
invariant-ones l = record {
  long : length l.marks.items ≡ length l.cone.nodes;
  each : (k : ℕ) → k < length l.marks.items
      → slice_index_or l.marks.items k false ≡ has_one l.positions (take l.node-index l.ones) k;
}
