-- One more code keeps the invariant.
use Rattle.recording_changes.proofs.Stores.{opened}
use Rattle.recording_changes.proofs.changes.Changes.open.Goals as goal

pub invariant_of-self : goal.invariant_of-self
invariant_of-self c = let h = c.in_err-push.ensures.items in rw h c.self.invariant

pub invariant_of-self-2 : goal.invariant_of-self-2
invariant_of-self-2 c = rw (c.in_ok-push.ensures.items, c.new.ensures) (opened _ c.self.invariant)
