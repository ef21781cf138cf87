-- The steps before and the one under way.
use Rattle.std.proofs.Common.{length, replicate, ap, subst}
use Rattle.std.specs.Prelude.{◌≡◌, IfOk}
use Rattle.base_ledger.specs.Ledger.{IndexView}
use Rattle.base_ledger.proofs.Kept.{finished}
use Rattle.base_ledger.proofs.ledger.Ledger.index.Goals as goal

pub returns : goal.returns
returns c =
    let all = finished c.self.inside.width (replicate c.self.inside.width c.self.inside.first) c.self.inside.changes.items c.self.inside.starts.items c.push.new.self.items c.args.self (length c.as_slice-end.result.now) c.self.invariant.some (ap length c.as_slice-end.ensures.value) c.in_ok-push.ensures.items c.self.view_is in
    subst (λ (view : IndexView). IfOk c.new.result (λ (index : IndexView). index ≡ view)) all c.new.ensures
