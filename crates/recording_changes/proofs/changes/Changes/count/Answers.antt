-- As many changes as entries.
use Rattle.std.proofs.Common.{◌<◌, ◌≤◌, ◌∙◌, length, ap, arith}
use Rattle.recording_changes.specs.Held.{History}
use Rattle.recording_changes.proofs.Holds.{count_of, count_of_absent}
use Rattle.recording_changes.proofs.changes.Changes.count.Goals as goal

pub returns-then-code-len : goal.returns-then-code-len
returns-then-code-len c =
    let le : length c.self.inside.tracks.items ≤ c.args.code = omega (arith, c.if-code-len.true, c.len.ensures, c.self.inside.tracks.ok.0) in
    count_of_absent _ _ _ _ (ap (λ (h : History). h.tracks) c.self.view_is) le

pub returns : goal.returns
returns c =
    let lt : c.args.code < length c.self.inside.tracks.items = omega (arith, c.if-code-len.false, c.len.ensures, c.self.inside.tracks.ok.0) in
    c.len-2.ensures ∙ count_of _ _ _ _ _ (ap (λ (h : History). h.tracks) c.self.view_is) lt c.index-track.ensures
