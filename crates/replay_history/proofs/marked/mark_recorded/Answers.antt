-- What isn't among the variables that change is recorded as before.
use Rattle.std.proofs.Common.{◌<◌, ℕ, arith, subst}
use Rattle.recording_reader.specs.Recording.{Recording}
use Rattle.recording_moments.specs.Changed.{AreChanged}
use Rattle.replay_history.proofs.Watching.{recorded_still}
use Rattle.replay_history.proofs.marked.mark_recorded.Goals as goal

pub returns-clause-recorded : goal.returns-clause-recorded
returns-clause-recorded c =
    let P : Recording → Type 0 = λ r. AreChanged r c.args.moment c.changed-changed.result.now in
    let changed = subst P c.requires.watchers.changes c.changed-changed.ensures in
    let test = c.variables-test.false in
    let end = c.variables.auto.variable-index-end in
    recorded_still c.args.sides.now.recording.now c.args.watchers.now.numbers.items c.args.moment c.changed-changed.result.now c.variables.due c.requires.later changed (λ k less. c.variables.invariant.marked k (omega (arith, less, test, end)))
