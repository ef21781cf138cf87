-- As many steps as there are bounds but for one.
use Rattle.std.proofs.Common.{◌∙◌, ◌-◌, ℕ, List, length, replicate, ap, sym}
use Rattle.base_ledger.specs.Ledger.{IndexView}
use Rattle.base_ledger.proofs.Steps.{steps_long}
use Rattle.base_ledger.proofs.index.LedgerIndex.steps.Goals as goal

pub returns : goal.returns
returns c =
    let long = steps_long (replicate c.self.inside.width c.self.inside.first) c.self.inside.changes.items c.self.inside.starts.items in
    c.saturating_sub.ensures ∙ ap (λ (xs : List ℕ). length xs - 1) c.as_slice.ensures.value ∙ sym long ∙ ap (λ (v : IndexView). length v.steps) c.self.view_is
