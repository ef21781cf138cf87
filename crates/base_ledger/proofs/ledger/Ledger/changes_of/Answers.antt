-- The part of the step.
use Rattle.std.proofs.Common.{◌≡◌, ◌∙◌, ◌+◌, replicate, slice_index, ap, sym}
use Rattle.std.specs.List.{slice_range}
use Rattle.base_ledger.specs.Ledger.{LedgerView}
use Rattle.base_ledger.proofs.Kept.{bounds_at, changes_are, row_follows}
use Rattle.base_ledger.proofs.ledger.Ledger.changes_of.Goals as goal

pub changes_between-requires : goal.changes_between-requires
changes_between-requires c =
    rw (c.as_slice.ensures.value, c.as_slice-2.ensures.value) (bounds_at (replicate c.self.inside.width c.self.inside.first) c.self.inside.changes.items c.self.inside.starts.items c.args.self.now.before c.args.step (ap (λ (v : LedgerView). v.before) c.self.view_is) c.self.invariant.bounds c.requires)

pub returns-clause-changes : goal.returns-clause-changes
returns-clause-changes c =
    let part : c.changes_between.result.now ≡ slice_range c.self.inside.changes.items (slice_index c.self.inside.starts.items c.args.step) (slice_index c.self.inside.starts.items (c.args.step + 1)) = rw (c.as_slice.ensures.value, c.as_slice-2.ensures.value) at c.changes_between.ensures in
    part ∙ sym (changes_are (replicate c.self.inside.width c.self.inside.first) c.self.inside.changes.items c.self.inside.starts.items c.args.self.now.before c.args.step (ap (λ (v : LedgerView). v.before) c.self.view_is) c.requires)

pub returns-clause-row : goal.returns-clause-row
returns-clause-row c = row_follows (replicate c.self.inside.width c.self.inside.first) c.self.inside.changes.items c.self.inside.starts.items c.args.self.now.before c.args.step (ap (λ (v : LedgerView). v.before) c.self.view_is) c.self.invariant.bounds c.requires
