-- A change is added after those of its code.
use Rattle.std.proofs.Common.{◌≤◌, ap, arith}
use Rattle.recording_changes.specs.Held.{History}
use Rattle.recording_changes.proofs.Stores.{known, added_is, added_keeps, same_keeps, later_all, added_count}
use Rattle.recording_changes.proofs.changes.Changes.add.Goals as goal

pub invariant_of-self : goal.invariant_of-self
invariant_of-self c = later_all _ c.in_err-text.ensures.grows.longer (omega arith) c.self.invariant

pub invariant_of-self-in_err-push : goal.invariant_of-self-in_err-push
invariant_of-self-in_err-push c =
    let lt = known c.self.inside.digits c.self.inside.tracks.items c.args.self.now.tracks c.args.code (ap (λ (h : History). h.tracks) c.self.view_is) c.requires.code in
    let was : c.self.inside.moment ≤ c.args.moment = rw (ap (λ (h : History). h.moment) c.self.view_is) c.requires.ascends in
    same_keeps _ _ _ _ _ _ c.in_ok-text.ensures.grows.longer was lt c.index_mut-track.ensures.value c.in_err-push.ensures.err c.self.invariant

pub invariant_of-self-2 : goal.invariant_of-self-2
invariant_of-self-2 c =
    let lt = known c.self.inside.digits c.self.inside.tracks.items c.args.self.now.tracks c.args.code (ap (λ (h : History). h.tracks) c.self.view_is) c.requires.code in
    let was : c.self.inside.moment ≤ c.args.moment = rw (ap (λ (h : History). h.moment) c.self.view_is) c.requires.ascends in
    added_keeps _ _ _ _ _ _ _ c.in_ok-text.ensures.grows.longer was c.in_ok-text.ensures.within lt c.index_mut-track.ensures.value c.in_ok-push.ensures.added c.self.invariant

pub returns : goal.returns
returns c =
    let lt = known c.self.inside.digits c.self.inside.tracks.items c.args.self.now.tracks c.args.code (ap (λ (h : History). h.tracks) c.self.view_is) c.requires.code in
    record {
      added = rw (← c.self.view_is) (added_is _ _ _ _ _ _ _ _ _ _ c.in_ok-text.ensures.grows c.in_ok-text.ensures.is lt c.index_mut-track.ensures.value c.in_ok-push.ensures.added c.self.invariant);
      moment = omega arith;
      codes = added_count _ _ _ _ _ _ (ap (λ (h : History). h.tracks) c.self.view_is);
    }
