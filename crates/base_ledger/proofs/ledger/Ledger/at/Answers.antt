-- A row that is kept, or the last change in the log.
use Rattle.std.proofs.Common.{◌≡◌, ◌∙◌, ℕ, ◌-◌, ◌+◌, ◌<◌, length, replicate, slice_index, List, take, arith, ap, sym}
use Rattle.std.proofs.lemmas.List.{get_or_default}
use Rattle.base_ledger.specs.declared.change.Change.{Change}
use Rattle.base_ledger.specs.Ledger.{LedgerView, row_with, step_row}
use Rattle.base_ledger.proofs.Kept.{before_is, row_earlier, row_is, row_last}
use Rattle.base_ledger.proofs.ledger.Ledger.at.Goals as goal

pub overflow_sub-back-2 : goal.overflow_sub-back-2
overflow_sub-back-2 c =
    let long : length c.args.self.now.before ≡ length c.self.inside.starts.items - 1 = before_is c.self.inside.width c.self.inside.first c.self.inside.changes.items c.self.inside.starts.items c.args.self.now c.self.view_is in
    let same : length c.as_slice.result.now ≡ length c.self.inside.starts.items = ap length c.as_slice.ensures.value in
    let some = c.self.invariant.some in
    let step = c.requires.step in
    omega (arith, long, same, step)

pub one_back-requires-clause-step : goal.one_back-requires-clause-step
one_back-requires-clause-step c =
    let long : length c.args.self.now.before ≡ length c.self.inside.starts.items - 1 = before_is c.self.inside.width c.self.inside.first c.self.inside.changes.items c.self.inside.starts.items c.args.self.now c.self.view_is in
    let same : length c.as_slice.result.now ≡ length c.self.inside.starts.items = ap length c.as_slice.ensures.value in
    let some = c.self.invariant.some in
    let step = c.requires.step in
    let back = c.if-back-eq1.true in
    omega (arith, long, same, step, back)

pub two_back-requires-clause-step : goal.two_back-requires-clause-step
two_back-requires-clause-step c =
    let long : length c.args.self.now.before ≡ length c.self.inside.starts.items - 1 = before_is c.self.inside.width c.self.inside.first c.self.inside.changes.items c.self.inside.starts.items c.args.self.now c.self.view_is in
    let same : length c.as_slice.result.now ≡ length c.self.inside.starts.items = ap length c.as_slice.ensures.value in
    let some = c.self.invariant.some in
    let step = c.requires.step in
    let back = c.if-back-eq2.true in
    omega (arith, long, same, step, back)

pub returns-then-back-eq0 : goal.returns-then-back-eq0
returns-then-back-eq0 c =
    let long : length c.args.self.now.before ≡ length c.self.inside.starts.items - 1 = before_is c.self.inside.width c.self.inside.first c.self.inside.changes.items c.self.inside.starts.items c.args.self.now c.self.view_is in
    let same : length c.as_slice.result.now ≡ length c.self.inside.starts.items = ap length c.as_slice.ensures.value in
    let some = c.self.invariant.some in
    let step = c.requires.step in
    let back = c.if-back-eq0.true in
    let row = row_last c.args.self.now c.args.step (omega (arith, long, same, step, back, some)) in
    c.now.ensures ∙ ap (λ (r : List ℕ). slice_index r c.args.position) (sym row)

pub returns-then-back-eq1 : goal.returns-then-back-eq1
returns-then-back-eq1 c =
    let long : length c.args.self.now.before ≡ length c.self.inside.starts.items - 1 = before_is c.self.inside.width c.self.inside.first c.self.inside.changes.items c.self.inside.starts.items c.args.self.now c.self.view_is in
    let same : length c.as_slice.result.now ≡ length c.self.inside.starts.items = ap length c.as_slice.ensures.value in
    let some = c.self.invariant.some in
    let step = c.requires.step in
    let back = c.if-back-eq1.true in
    let row = row_earlier c.args.self.now c.args.step (omega (arith, long, same, step, back, some)) in
    let there : length c.args.self.now.before - 1 ≡ c.args.step = omega (arith, long, same, step, back, some) in
    c.one_back.ensures
    ∙ ap (λ k. slice_index (step_row c.args.self.now.before k) c.args.position) there
    ∙ ap (λ (r : List ℕ). slice_index r c.args.position) (sym row)

pub returns-then-back-eq2 : goal.returns-then-back-eq2
returns-then-back-eq2 c =
    let long : length c.args.self.now.before ≡ length c.self.inside.starts.items - 1 = before_is c.self.inside.width c.self.inside.first c.self.inside.changes.items c.self.inside.starts.items c.args.self.now c.self.view_is in
    let same : length c.as_slice.result.now ≡ length c.self.inside.starts.items = ap length c.as_slice.ensures.value in
    let some = c.self.invariant.some in
    let step = c.requires.step in
    let back = c.if-back-eq2.true in
    let row = row_earlier c.args.self.now c.args.step (omega (arith, long, same, step, back, some)) in
    let there : length c.args.self.now.before - 2 ≡ c.args.step = omega (arith, long, same, step, back, some) in
    c.two_back.ensures
    ∙ ap (λ k. slice_index (step_row c.args.self.now.before k) c.args.position) there
    ∙ ap (λ (r : List ℕ). slice_index r c.args.position) (sym row)

pub returns-else-back-eq2 : goal.returns-else-back-eq2
returns-else-back-eq2 c =
    let long : length c.args.self.now.before ≡ length c.self.inside.starts.items - 1 = before_is c.self.inside.width c.self.inside.first c.self.inside.changes.items c.self.inside.starts.items c.args.self.now c.self.view_is in
    let same : length c.as_slice.result.now ≡ length c.self.inside.starts.items = ap length c.as_slice.ensures.value in
    let step = c.requires.step in
    let some = c.self.invariant.some in
    let last = c.if-back-eq0.false in
    let less : c.args.step < length c.args.self.now.before = omega (arith, long, same, step, last, some) in
    let inside : c.args.step + 1 < length c.self.inside.starts.items = omega (arith, long, less, some) in
    let end : c.index-end.result.now ≡ slice_index c.self.inside.starts.items (c.args.step + 1) = c.index-end.ensures ∙ get_or_default c.self.inside.starts.items (c.args.step + 1) c.index-end.result.now 0 inside in
    let width : c.self.inside.width ≡ c.args.self.now.width = ap (λ (v : LedgerView). v.width) c.self.view_is in
    let position = c.requires.position in
    let row = row_is (replicate c.self.inside.width c.self.inside.first) c.self.inside.changes.items c.self.inside.starts.items c.args.self.now.before c.args.step (ap (λ (v : LedgerView). v.before) c.self.view_is) less in
    let log = row_earlier c.args.self.now c.args.step less in
    c.value_after.ensures c.self.inside.width (omega (arith, width, position))
    ∙ ap (λ (cs : List Change). slice_index (row_with (replicate c.self.inside.width c.self.inside.first) (take c.index-end.result.now cs)) c.args.position) c.deref.ensures.value
    ∙ ap (λ k. slice_index (row_with (replicate c.self.inside.width c.self.inside.first) (take k c.self.inside.changes.items)) c.args.position) end
    ∙ ap (λ (r : List ℕ). slice_index r c.args.position) (sym (log ∙ row))
