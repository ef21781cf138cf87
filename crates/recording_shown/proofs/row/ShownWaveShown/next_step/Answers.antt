-- A step more is written as a whole.
use Rattle.std.proofs.Common.{◌+◌, ◌<◌, ℕ, subst}
use Rattle.recording_shown.proofs.Standing.{next_whole}
use Rattle.recording_shown.proofs.row.ShownWaveShown.next_step.Goals as goal

pub next_step-requires-clause-whole : goal.next_step-requires-clause-whole
next_step-requires-clause-whole c =
    let row = c.self.inside in
    next_whole row.wave.now row.step row.row c.self.invariant
    (subst (λ (n : ℕ). row.step + 1 < n) c.steps_of.ensures c.if-self-steps_of.true)
