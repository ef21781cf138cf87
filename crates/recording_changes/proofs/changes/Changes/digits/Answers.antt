-- The digits of the last change up to the moment.
use Rattle.std.proofs.Common.{◌<◌, ◌∙◌, length, ap, arith}
use Rattle.recording_changes.specs.Held.{History}
use Rattle.recording_changes.proofs.Holds.{is_track_at, kept_at, held_of_none, held_of_some}
use Rattle.recording_changes.proofs.changes.Changes.digits.Goals as goal

within : (c : goal.After-index-track) → c.args.code < length c.self.inside.tracks.items
within c = omega (arith, c.if-code-len.false, c.len.ensures, c.self.inside.tracks.ok.0)

pub count_near-count-requires : goal.count_near-count-requires
count_near-count-requires c = (is_track_at c.self.inside.tracks.items _ _ (within c) c.index-track.ensures c.self.invariant).ordered

pub returns-then-count-eq0 : goal.returns-then-count-eq0
returns-then-count-eq0 c =
    let lt : c.args.code < length c.self.inside.tracks.items = omega (arith, c.if-code-len.false, c.len.ensures, c.self.inside.tracks.ok.0) in
    let x = c.as_slice-then-count-eq0.ensures in
    rw x (held_of_none _ _ _ _ _ _ _ _ (ap (λ (h : History). h.tracks) c.self.view_is) lt c.index-track.ensures c.if-count-eq0.true c.count_near-count.ensures.split.1)

pub get-requires : goal.get-requires
get-requires c =
    let lt : c.args.code < length c.self.inside.tracks.items = omega (arith, c.if-code-len.false, c.len.ensures, c.self.inside.tracks.ok.0) in
    (kept_at _ _ _ _ _ lt c.index-track.ensures c.self.invariant c.count_near-count.ensures.bound c.if-count-eq0.false c.entry-entry.ensures).text

pub returns : goal.returns
returns c =
    let lt : c.args.code < length c.self.inside.tracks.items = omega (arith, c.if-code-len.false, c.len.ensures, c.self.inside.tracks.ok.0) in
    c.get.ensures ∙ held_of_some _ _ _ _ _ _ _ _ _ (ap (λ (h : History). h.tracks) c.self.view_is) lt c.index-track.ensures c.count_near-count.ensures.bound c.if-count-eq0.false c.count_near-count.ensures.split.0 c.count_near-count.ensures.split.1 c.entry-entry.ensures
