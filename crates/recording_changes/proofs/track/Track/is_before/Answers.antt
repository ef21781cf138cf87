-- The last of the first entries comes in the moment or before it, so they all do.
use Rattle.std.proofs.Common.{◌≡◌, ◌≤◌, length, arith}
use Rattle.recording_changes.proofs.Counts.{before_is}
use Rattle.recording_changes.proofs.track.Track.is_before.Goals as goal

pub returns : goal.returns
returns c = λ h.
    let same : c.self.inside.entries.items ≡ c.args.self.now = c.self.view_is in
    let le : c.args.count ≤ length c.self.inside.entries.items = omega (arith, c.if-count-len.false, c.len.ensures, c.self.inside.entries.ok.0) in
    rw (← same) (before_is c.self.inside.entries.items c.args.moment c.args.count c.index.result.now (rw same c.requires) le c.if-count-eq0.false c.index.ensures h)
