-- The events so far are taken.
use Rattle.std.proofs.Common.{◌≤◌, ◌-◌, length}
use Rattle.replay_history.specs.Forced.{ChangesOnlyBy, HasTaken}
use Rattle.replay_history.proofs.forced.take_events.Given as goal

abbrev pub invariant-events : goal.invariant-events
invariant-events l = record {
  taken : HasTaken (length l.initial.values) l.events l.step l.next l.values;
  grows : l.taken ≤ l.next;
  elsewhere : ChangesOnlyBy l.events l.taken l.next l.initial.values l.values;
}

abbrev pub decreases-events : goal.decreases-events
decreases-events l = length l.events - l.next
