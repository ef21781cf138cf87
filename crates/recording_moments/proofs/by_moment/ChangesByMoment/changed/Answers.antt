-- The part of the moment, which has each variable that changes in it.
use Rattle.std.proofs.Common.{◌≡◌, length, ap, arith, subst}
use Rattle.recording_reader.specs.Recording.{Recording}
use Rattle.recording_moments.specs.Changed.{AreChanged}
use Rattle.recording_moments.specs.Tables.{part_at}
use Rattle.recording_moments.proofs.Quiet.{are_changed, bounds_are}
use Rattle.recording_moments.proofs.by_moment.ChangesByMoment.changed.Goals as goal

pub part_at-requires : goal.part_at-requires
part_at-requires c =
    let same : length c.self.inside.recording.now.times ≡ length c.args.self.now.times = ap (λ (r : Recording). length r.times) c.self.view_is in
    let less = c.requires in
    rw (c.as_slice.ensures.value, c.as_slice-2.ensures.value) (bounds_are c.self.inside.recording.now (length c.self.inside.recording.now.times) c.self.inside.starts.items c.self.inside.variables.items c.args.moment c.self.invariant (omega (arith, same, less)))

pub returns : goal.returns
returns c =
    let same : length c.self.inside.recording.now.times ≡ length c.args.self.now.times = ap (λ (r : Recording). length r.times) c.self.view_is in
    let less = c.requires in
    let part : c.part_at.result.now ≡ part_at c.self.inside.variables.items c.self.inside.starts.items c.args.moment = rw (c.as_slice.ensures.value, c.as_slice-2.ensures.value) at c.part_at.ensures in
    subst (λ (r : Recording). AreChanged r c.args.moment c.part_at.result.now) c.self.view_is (are_changed c.self.inside.recording.now c.self.inside.starts.items c.self.inside.variables.items c.args.moment c.part_at.result.now c.self.invariant (omega (arith, same, less)) part)
