-- One step of equal values.
use Rattle.std.proofs.Common.{◌∙◌, ◌++◌, ◌∷◌, List, ℕ, [], ap}
use Rattle.base_ledger.proofs.Kept.{ledger_new}
use Rattle.base_ledger.proofs.ledger.Ledger.new.Goals as goal

pub returns : goal.returns
returns c = ledger_new c.args.width c.args.first c.new-changes.result.items c.push.new.self.items c.new-changes.ensures.items (c.in_ok-push.ensures.items ∙ ap (λ (xs : List ℕ). xs ++ 0 ∷ []) c.new-starts.ensures.items)
