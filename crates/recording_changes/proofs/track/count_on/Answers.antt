-- The next entry comes after the moment, so all that follow do.
use Rattle.recording_changes.proofs.Counts.{after_is}
use Rattle.recording_changes.proofs.track.count_on.Goals as goal

pub returns-else-entries-count-clause-split : goal.returns-else-entries-count-clause-split
returns-else-entries-count-clause-split c =
    (λ k d le lt. c.entries.invariant.each k d lt, after_is c.args.entries.now c.args.moment c.entries.count _ c.requires.sorted c.if-entries-count.false)
