-- A text more.
use Rattle.std.proofs.Common.{◌≡◌, ◌+◌, length, arith}
use Rattle.recording_changes.proofs.Cuts.{pushed_cut, pushed_is}
use Rattle.recording_changes.proofs.texts.Texts.push.Goals as goal

ends_at : (c : goal.In-Ok) → c.saturating_add-end.result ≡ length c.self.inside.bytes.items + length c.args.text.now
ends_at c = omega (arith, c.saturating_add-end.ensures, c.len-start.ensures, c.self.inside.bytes.ok.0, c.if-end.false)

pub invariant_of-self-in-Ok : goal.invariant_of-self-in-Ok
invariant_of-self-in-Ok c = pushed_cut _ _ _ _ _ _ c.self.invariant c.in_ok-extend_from_slice.ensures.items c.in-Ok.ensures.items (ends_at c)

pub returns-in-Ok-clause-added : goal.returns-in-Ok-clause-added
returns-in-Ok-clause-added c = pushed_is _ _ _ _ _ _ _ c.self.invariant c.self.view_is c.in_ok-extend_from_slice.ensures.items c.in-Ok.ensures.items (ends_at c)
