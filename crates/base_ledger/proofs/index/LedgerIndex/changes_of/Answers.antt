-- The part of the step.
use Rattle.std.proofs.Common.{◌≡◌, ◌∙◌, ◌+◌, List, replicate, slice_index, ap, subst, sym}
use Rattle.std.specs.List.{slice_range}
use Rattle.base_ledger.specs.Change.{AreInWidth}
use Rattle.base_ledger.specs.Ledger.{IndexView}
use Rattle.base_ledger.specs.declared.change.Change.{Change}
use Rattle.base_ledger.proofs.Kept.{bounds_at, changes_are, row_follows, within_part}
use Rattle.base_ledger.proofs.index.LedgerIndex.changes_of.Goals as goal

pub changes_between-requires : goal.changes_between-requires
changes_between-requires c =
    rw (c.as_slice.ensures.value, c.as_slice-2.ensures.value) (bounds_at (replicate c.self.inside.width c.self.inside.first) c.self.inside.changes.items c.self.inside.starts.items c.args.self.now.steps c.args.step (ap (λ (v : IndexView). v.steps) c.self.view_is) c.self.invariant.bounds c.requires)

pub returns-clause-changes : goal.returns-clause-changes
returns-clause-changes c =
    let part : c.changes_between.result.now ≡ slice_range c.self.inside.changes.items (slice_index c.self.inside.starts.items c.args.step) (slice_index c.self.inside.starts.items (c.args.step + 1)) = rw (c.as_slice.ensures.value, c.as_slice-2.ensures.value) at c.changes_between.ensures in
    part ∙ sym (changes_are (replicate c.self.inside.width c.self.inside.first) c.self.inside.changes.items c.self.inside.starts.items c.args.self.now.steps c.args.step (ap (λ (v : IndexView). v.steps) c.self.view_is) c.requires)

pub returns-clause-within : goal.returns-clause-within
returns-clause-within c =
    let part : c.changes_between.result.now ≡ slice_range c.self.inside.changes.items (slice_index c.self.inside.starts.items c.args.step) (slice_index c.self.inside.starts.items (c.args.step + 1)) = rw (c.as_slice.ensures.value, c.as_slice-2.ensures.value) at c.changes_between.ensures in
    let bounds = bounds_at (replicate c.self.inside.width c.self.inside.first) c.self.inside.changes.items c.self.inside.starts.items c.args.self.now.steps c.args.step (ap (λ (v : IndexView). v.steps) c.self.view_is) c.self.invariant.bounds c.requires in
    let wide = ap (λ (v : IndexView). v.width) c.self.view_is in
    subst (λ width. AreInWidth width c.changes_between.result.now) wide (subst (λ (changes : List Change). AreInWidth c.self.inside.width changes) (sym part) (within_part c.self.inside.width c.self.inside.changes.items (slice_index c.self.inside.starts.items c.args.step) (slice_index c.self.inside.starts.items (c.args.step + 1)) bounds.rising bounds.within c.self.invariant.inside))

pub returns-clause-row : goal.returns-clause-row
returns-clause-row c = row_follows (replicate c.self.inside.width c.self.inside.first) c.self.inside.changes.items c.self.inside.starts.items c.args.self.now.steps c.args.step (ap (λ (v : IndexView). v.steps) c.self.view_is) c.self.invariant.bounds c.requires
