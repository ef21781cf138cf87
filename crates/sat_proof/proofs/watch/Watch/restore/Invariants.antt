-- The entries of the loose chain that are left, fewer at each turn.
use Rattle.std.proofs.Common.{◌≡◌, length}
use Rattle.sat_proof.specs.Watch.{IsChained}
use Rattle.sat_proof.proofs.watch.Watch.restore.Given as goal

abbrev pub invariant-loop-left : goal.invariant-loop-left
invariant-loop-left l = record {
  size : length l.self.heads.items ≡ length l.initial.self.heads.items;
  chained : IsChained l.self l.at l.left;
  literals : l.self.literals.items ≡ l.initial.self.literals.items;
  used : l.self.used ≡ l.initial.self.used;
  on : l.self.on ≡ l.initial.self.on;
}

abbrev pub decreases-loop-left : goal.decreases-loop-left
decreases-loop-left l = l.left
