-- The changes of a track are sorted, so that those up to a moment come first.
use Rattle.std.proofs.Common.{◌≡◌, ◌∙◌, rules, leb}
use Rattle.std.specs.List.Sorted.{IsPartitionedBy}
use Rattle.std.proofs.lemmas.List.Sorted.{IsPartitionPoint-from_clause, IsPartitionedBy-leb}
use Rattle.recording_changes.specs.declared.track.Entry.{Entry}
use Rattle.recording_changes.proofs.track.Track.count.Goals as goal

pub returns-clause-split : goal.returns-clause-split
returns-clause-split c =
    let same : c.as_slice.result.now ≡ c.args.self.now = c.as_slice.ensures.value ∙ c.self.view_is in
    let parted : IsPartitionedBy (λ (e : Entry). leb e.moment c.args.moment) c.as_slice.result.now = rw same (IsPartitionedBy-leb (λ (e : Entry). e.moment) c.args.self.now c.args.moment c.requires) in
    let h = IsPartitionPoint-from_clause (λ (e : Entry). leb e.moment c.args.moment) c.as_slice.result.now c.partition_point.result c.partition_point.ensures.partitioned parted (λ a r q k. search rules) in
    rw (← same) h
