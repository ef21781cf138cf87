-- A code more.
use Rattle.recording_codes.proofs.Rows.{pushed_is}
use Rattle.recording_codes.proofs.columns.Columns.push.Goals as goal

pub returns-in-Ok-clause-added : goal.returns-in-Ok-clause-added
returns-in-Ok-clause-added c = pushed_is _ _ _ _ _ _ _ c.self.view_is c.self.invariant c.in_ok-push.ensures.items c.in-Ok.ensures.items
