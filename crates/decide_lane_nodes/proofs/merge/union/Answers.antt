-- The least of the first places moves to those that are merged.
use Rattle.std.proofs.Common.{sym, ◌∙◌}
use Rattle.decide_lane_nodes.proofs.Unions.{fewer_left, merge_begins, merge_ends, merge_more}
use Rattle.decide_lane_nodes.proofs.merge.union.Goals as goal

pub places-init : goal.places-init
places-init c = rw c.in_ok-all.ensures.items (merge_begins c.args.some.now c.args.others.now c.requires.some c.requires.others)

pub places-smaller : goal.places-smaller
places-smaller c =
    rw (c.after-left.ensures, c.after-right.ensures)
    (fewer_left c.places.left.now c.places.right.now c.in-Some.place (sym c.least.ensures ∙ c.in-Some.is))

pub places-preserved : goal.places-preserved
places-preserved c =
    rw (c.in_ok-push.ensures.items, c.after-left.ensures, c.after-right.ensures)
    (merge_more c.args.some.now c.args.others.now c.places.all.items c.places.left.now c.places.right.now
    c.in-Some.place c.places.invariant (sym c.least.ensures ∙ c.in-Some.is))

pub returns : goal.returns
returns c =
    merge_ends c.args.some.now c.args.others.now c.places.all.items c.places.left.now c.places.right.now
    c.places.invariant (sym c.least.ensures ∙ c.in_default.is)
