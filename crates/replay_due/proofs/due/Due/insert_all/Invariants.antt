-- The positions so far are in.
use Rattle.std.proofs.Common.{◌≡◌, length, take}
use Rattle.replay_due.specs.Due.{GainsAll}
use Rattle.replay_due.proofs.due.Due.insert_all.Given as goal

abbrev pub invariant-positions : goal.invariant-positions
invariant-positions l = record {
  long : length l.self ≡ length l.initial.self;
  gains : GainsAll l.initial.self l.self (take l.position-index l.positions);
}
