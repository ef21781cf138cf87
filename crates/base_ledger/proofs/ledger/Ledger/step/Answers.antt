-- As many steps lie before as there are starts but for one.
use Rattle.std.proofs.Common.{◌∙◌, ◌-◌, ℕ, List, length, ap, sym}
use Rattle.base_ledger.proofs.Kept.{before_is}
use Rattle.base_ledger.proofs.ledger.Ledger.step.Goals as goal

pub returns : goal.returns
returns c =
    let long = before_is c.self.inside.width c.self.inside.first c.self.inside.changes.items c.self.inside.starts.items c.args.self.now c.self.view_is in
    ap (λ (xs : List ℕ). length xs - 1) c.as_slice.ensures.value ∙ sym long
