-- The row is one of the same wave.
use Rattle.std.proofs.Common.{◌≡◌, ◌-◌}
use Rattle.replay_forces.proofs.wave.PlaceRow.go_to.Given as goal

abbrev pub invariant-steps : goal.invariant-steps
invariant-steps l = record { wave : l.self.row.wave ≡ l.fn.self.row.wave }

abbrev pub decreases-steps : goal.decreases-steps
decreases-steps l = l.step - l.self.row.step
