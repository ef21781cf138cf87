-- The history has two nets at four steps.
use Rattle.std.proofs.Common.{◌≡◌, length}
use Rattle.test_waves.proofs.designs.history.check_set.Given as goal

abbrev pub invariant-loop-shown : goal.invariant-loop-shown
invariant-loop-shown g l = (l.writer.step ≡ 1) × (l.writer.history.nets ≡ 2) × (length l.writer.history.places ≡ 8)
