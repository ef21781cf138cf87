-- A variable more, and the number of its code.
use Rattle.std.proofs.Common.{ap}
use Rattle.recording_reader.specs.Declarations.{Declarations}
use Rattle.recording_reader.proofs.Kept.{listed}
use Rattle.recording_reader.proofs.declarations.Declarations.list.Goals as goal

pub invariant_of-self-in-Ok : goal.invariant_of-self-in-Ok
invariant_of-self-in-Ok c = (listed _ _ _ _ _ _ _ _ c.self.invariant.0 (ap (λ (h : Declarations). h.scopes) c.self.view_is) c.requires.variable (rw (ap (λ (h : Declarations). h.variables) c.self.view_is) c.requires.few) c.in-Ok.ensures.items c.in_ok-push.ensures.items, c.self.invariant.1)
