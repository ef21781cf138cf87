-- The last change of the position up to the step.
use Rattle.std.proofs.Common.{◌≡◌, ◌<◌, ◌∙◌, ◌+◌, ◌-◌, replicate, slice_index, ap, arith}
use Rattle.std.proofs.lemmas.List.{get_or_default}
use Rattle.base_ledger.specs.Change.{nth_change, no_change, change_payload}
use Rattle.base_ledger.specs.Ledger.{IndexView}
use Rattle.base_ledger.specs.declared.change.Change.{Change}
use Rattle.base_ledger.proofs.Kept.{bounds_at}
use Rattle.base_ledger.proofs.Lookups.{IsCount, has_last, has_none, number_small}
use Rattle.base_ledger.proofs.index.LedgerIndex.at.Goals as goal

pub of-part-requires : goal.of-part-requires
of-part-requires c =
    let same : c.self.inside.width ≡ c.args.self.now.width = ap (λ (v : IndexView). v.width) c.self.view_is in
    let less = c.requires.position in
    let long = c.self.invariant.parts.parts.long in
    omega (arith, same, less, long)

pub overflow_add-step : goal.overflow_add-step
overflow_add-step c =
    let bounds = bounds_at (replicate c.self.inside.width c.self.inside.first) c.self.inside.changes.items c.self.inside.starts.items c.args.self.now.steps c.args.step (ap (λ (v : IndexView). v.steps) c.self.view_is) c.self.invariant.bounds c.requires.step in
    let next = bounds.next in
    omega (arith, next)

pub index-requires : goal.index-requires
index-requires c =
    let bounds = bounds_at (replicate c.self.inside.width c.self.inside.first) c.self.inside.changes.items c.self.inside.starts.items c.args.self.now.steps c.args.step (ap (λ (v : IndexView). v.steps) c.self.view_is) c.self.invariant.bounds c.requires.step in
    let next = bounds.next in
    omega (arith, next)

pub returns-then-count-eq0 : goal.returns-then-count-eq0
returns-then-count-eq0 c =
    let low : c.args.position < c.self.inside.width = (let same : c.self.inside.width ≡ c.args.self.now.width = ap (λ (v : IndexView). v.width) c.self.view_is in let less = c.requires.position in omega (arith, same, less)) in
    let bounds = bounds_at (replicate c.self.inside.width c.self.inside.first) c.self.inside.changes.items c.self.inside.starts.items c.args.self.now.steps c.args.step (ap (λ (v : IndexView). v.steps) c.self.view_is) c.self.invariant.bounds c.requires.step in
    let end : c.index.result.now ≡ slice_index c.self.inside.starts.items (c.args.step + 1) = c.index.ensures ∙ get_or_default c.self.inside.starts.items (c.args.step + 1) c.index.result.now 0 bounds.next in
    let count : IsCount c.self.inside.changes.items c.args.position c.index.result.now c.count_below-count.result c.of-part.result.now = record { part_is = c.of-part.ensures ∙ c.self.invariant.parts.part c.args.position low; within = c.count_below-count.ensures.within; last = c.count_below-count.ensures.last; next = c.count_below-count.ensures.next } in
    has_none c.self.inside.width c.self.inside.first c.self.inside.changes.items c.self.inside.starts.items c.of-part.result.now c.args.self.now.steps c.args.step c.args.position c.index.result.now c.count_below-count.result c.self.invariant.bounds (ap (λ (v : IndexView). v.steps) c.self.view_is) c.requires.step low end count c.if-count-eq0.true

pub index-requires-2 : goal.index-requires-2
index-requires-2 c =
    let low : c.args.position < c.self.inside.width = (let same : c.self.inside.width ≡ c.args.self.now.width = ap (λ (v : IndexView). v.width) c.self.view_is in let less = c.requires.position in omega (arith, same, less)) in
    let count : IsCount c.self.inside.changes.items c.args.position c.index.result.now c.count_below-count.result c.of-part.result.now = record { part_is = c.of-part.ensures ∙ c.self.invariant.parts.part c.args.position low; within = c.count_below-count.ensures.within; last = c.count_below-count.ensures.last; next = c.count_below-count.ensures.next } in
    let test = c.if-count-eq0.false in
    let small = number_small c.self.inside.changes.items c.of-part.result.now c.args.position c.index.result.now c.count_below-count.result count (omega (arith, test)) in
    omega (arith, small)

pub returns : goal.returns
returns c =
    let low : c.args.position < c.self.inside.width = (let same : c.self.inside.width ≡ c.args.self.now.width = ap (λ (v : IndexView). v.width) c.self.view_is in let less = c.requires.position in omega (arith, same, less)) in
    let bounds = bounds_at (replicate c.self.inside.width c.self.inside.first) c.self.inside.changes.items c.self.inside.starts.items c.args.self.now.steps c.args.step (ap (λ (v : IndexView). v.steps) c.self.view_is) c.self.invariant.bounds c.requires.step in
    let end : c.index.result.now ≡ slice_index c.self.inside.starts.items (c.args.step + 1) = c.index.ensures ∙ get_or_default c.self.inside.starts.items (c.args.step + 1) c.index.result.now 0 bounds.next in
    let count : IsCount c.self.inside.changes.items c.args.position c.index.result.now c.count_below-count.result c.of-part.result.now = record { part_is = c.of-part.ensures ∙ c.self.invariant.parts.part c.args.position low; within = c.count_below-count.ensures.within; last = c.count_below-count.ensures.last; next = c.count_below-count.ensures.next } in
    let test = c.if-count-eq0.false in
    let some : 0 < c.count_below-count.result = omega (arith, test) in
    let small = number_small c.self.inside.changes.items c.of-part.result.now c.args.position c.index.result.now c.count_below-count.result count some in
    let there : c.index-2.result.now ≡ nth_change c.self.inside.changes.items (slice_index c.of-part.result.now (c.count_below-count.result - 1)) = c.index-2.ensures ∙ get_or_default c.self.inside.changes.items (slice_index c.of-part.result.now (c.count_below-count.result - 1)) c.index-2.result.now no_change small in
    c.payload.ensures ∙ ap (λ (x : Change). change_payload x) there ∙ has_last c.self.inside.width c.self.inside.first c.self.inside.changes.items c.self.inside.starts.items c.of-part.result.now c.args.self.now.steps c.args.step c.args.position c.index.result.now c.count_below-count.result c.self.invariant.bounds (ap (λ (v : IndexView). v.steps) c.self.view_is) c.requires.step low end count some
