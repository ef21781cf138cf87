-- No position so far is due.
use Rattle.std.proofs.Common.{◌≤◌, ◌-◌, ◌/◌, length}
use Rattle.replay_due.specs.Due.{NoneBetween}
use Rattle.replay_due.proofs.due.Due.first_from.Given as goal

abbrev pub invariant-words : goal.invariant-words
invariant-words l = record {
  forward : l.from ≤ l.position;
  none : NoneBetween l.self l.from l.position;
}

abbrev pub decreases-words : goal.decreases-words
decreases-words l = length l.self - l.position / 64
