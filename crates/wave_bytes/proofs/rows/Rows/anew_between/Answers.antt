-- They are a part of the log.
use Rattle.std.proofs.Common.{◌-◌, ◌≤◌, List, drop, length, take, ap, sym, subst, arith}
use Rattle.wave_bytes.specs.Rows.{AreAnewBetween, RowsView, bytes_in}
use Rattle.wave_bytes.specs.declared.anew.Anew.{Anew}
use Rattle.wave_bytes.proofs.NotedPlaces.{part_is, part_order}
use Rattle.wave_bytes.proofs.RowPlaces.{bytes_long}
use Rattle.wave_bytes.proofs.rows.Rows.anew_between.Goals as goal

pub returns : goal.returns
returns c =
    let w = c.self.inside.width in
    let s = c.self.inside.steps in
    let n = c.self.inside.count in
    let rs = c.self.inside.roots.items in
    let ts = c.self.inside.tracks.items in
    let long = bytes_long w rs ts n in
    let end : c.args.end ≤ length (bytes_in w rs ts n) =
    subst (λ (v : RowsView). c.args.end ≤ length v.bytes) (sym c.self.view_is) c.requires.end in
    subst (λ (v : RowsView). AreAnewBetween v c.args.number c.args.end (take (c.count_below-last.result
    - c.count_below-first.result) (drop c.count_below-first.result c.deref.result.now))) c.self.view_is
    (part_is w s n c.args.number c.args.end c.count_below-first.result c.count_below-last.result rs ts
    c.self.inside.log.items (take (c.count_below-last.result - c.count_below-first.result)
    (drop c.count_below-first.result c.deref.result.now)) c.self.invariant.noted
    (omega (arith, end, long)) c.requires.number
    (rw c.as_slice.ensures.value at c.count_below-first.ensures.last)
    (rw c.as_slice.ensures.value at c.count_below-first.ensures.next)
    (rw c.as_slice-2.ensures.value at c.count_below-last.ensures.last)
    (rw c.as_slice-2.ensures.value at c.count_below-last.ensures.within)
    (rw c.as_slice-2.ensures.value at c.count_below-last.ensures.next)
    (part_order w n c.args.number c.args.end c.count_below-first.result c.count_below-last.result rs ts
    c.self.inside.log.items c.self.invariant.noted c.requires.number
    (rw c.as_slice.ensures.value at c.count_below-first.ensures.last)
    (rw c.as_slice.ensures.value at c.count_below-first.ensures.within)
    (rw c.as_slice-2.ensures.value at c.count_below-last.ensures.next))
    (ap (λ (log : List Anew). take (c.count_below-last.result - c.count_below-first.result)
    (drop c.count_below-first.result log)) c.deref.ensures.value))

pub slice_bounds-result-count : goal.slice_bounds-result-count
slice_bounds-result-count c =
    part_order c.self.inside.width c.self.inside.count c.args.number c.args.end c.count_below-first.result
    c.count_below-last.result c.self.inside.roots.items c.self.inside.tracks.items
    c.self.inside.log.items c.self.invariant.noted c.requires.number
    (rw c.as_slice.ensures.value at c.count_below-first.ensures.last)
    (rw c.as_slice.ensures.value at c.count_below-first.ensures.within)
    (rw c.as_slice-2.ensures.value at c.count_below-last.ensures.next)

pub slice_bounds-result-start : goal.slice_bounds-result-start
slice_bounds-result-start c =
    part_order c.self.inside.width c.self.inside.count c.args.number c.args.end c.count_below-first.result
    c.count_below-last.result c.self.inside.roots.items c.self.inside.tracks.items
    c.self.inside.log.items c.self.invariant.noted c.requires.number
    (rw c.as_slice.ensures.value at c.count_below-first.ensures.last)
    (rw c.as_slice.ensures.value at c.count_below-first.ensures.within)
    (rw c.as_slice-2.ensures.value at c.count_below-last.ensures.next)
