-- The moment of the entry with that number.
use Rattle.std.proofs.Common.{◌<◌, length, ap, arith}
use Rattle.recording_changes.specs.Held.{History}
use Rattle.recording_changes.proofs.Holds.{code_of_change, count_of, moment_is}
use Rattle.recording_changes.proofs.changes.Changes.moment_of.Goals as goal

pub index-track-requires : goal.index-track-requires
index-track-requires c =
    let lt = code_of_change _ _ _ _ _ (ap (λ (h : History). h.tracks) c.self.view_is) c.requires in
    omega (arith, lt, c.self.inside.tracks.ok.0)

pub entry-requires : goal.entry-requires
entry-requires c =
    let view = ap (λ (h : History). h.tracks) c.self.view_is in
    let lt = code_of_change _ _ _ _ _ view c.requires in
    let long = count_of _ _ _ _ _ view lt c.index-track.ensures in
    let less = c.requires in
    omega (arith, long, less)

pub returns : goal.returns
returns c =
    let view = ap (λ (h : History). h.tracks) c.self.view_is in
    let lt = code_of_change _ _ _ _ _ view c.requires in
    let long = count_of _ _ _ _ _ view lt c.index-track.ensures in
    let less = c.requires in
    moment_is _ _ _ _ _ _ _ view lt c.index-track.ensures (omega (arith, long, less)) (c.entry.ensures _)
