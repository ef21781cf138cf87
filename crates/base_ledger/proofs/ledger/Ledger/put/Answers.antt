-- A change more.
use Rattle.std.proofs.Common.{◌≡◌, ◌<◌, ◌∙◌, ◌++◌, ◌∷◌, [], List, length, replicate, ap, arith}
use Rattle.std.proofs.lemmas.List.{length-replicate}
use Rattle.base_ledger.specs.Change.{packed_change}
use Rattle.base_ledger.specs.Ledger.{LedgerView, ledger_of, with_put}
use Rattle.base_ledger.specs.declared.change.Change.{Change}
use Rattle.base_ledger.proofs.Kept.{kept_put, ledger_put, in_width}
use Rattle.base_ledger.proofs.Rows.{length-row_with}
use Rattle.base_ledger.proofs.ledger.Ledger.put.Goals as goal

pub new-requires : goal.new-requires
new-requires c =
    let blank = replicate c.self.inside.width c.self.inside.first in
    let less = in_width c.self.inside.width (replicate c.self.inside.width c.self.inside.first) c.self.inside.changes.items c.self.inside.starts.items c.args.self.now c.args.position c.self.view_is c.requires in
    let long = length-replicate c.self.inside.width c.self.inside.first in
    let wide = c.self.invariant.wide in
    omega (arith, less, long, wide)

pub invariant_of-self-2 : goal.invariant_of-self-2
invariant_of-self-2 c =
    let less = in_width c.self.inside.width (replicate c.self.inside.width c.self.inside.first) c.self.inside.changes.items c.self.inside.starts.items c.args.self.now c.args.position c.self.view_is c.requires in
    let long = length-replicate c.self.inside.width c.self.inside.first in
    let within : c.args.position < c.self.inside.width = omega (arith, less, long) in
    rw (c.in_ok-push.ensures.items, c.new.ensures) (kept_put c.self.inside.width (replicate c.self.inside.width c.self.inside.first) c.self.inside.changes.items c.self.inside.starts.items c.self.inside.row.items c.self.inside.one.items c.self.inside.two.items c.args.position c.args.payload long within (omega arith) c.self.invariant)

pub returns-clause-ok : goal.returns-clause-ok
returns-clause-ok c =
    let items : c.push.new.self.items ≡ c.self.inside.changes.items ++ packed_change c.args.position c.args.payload ∷ [] = c.in_ok-push.ensures.items ∙ ap (λ (x : Change). c.self.inside.changes.items ++ x ∷ []) c.new.ensures in
    ap (λ (xs : List Change). ledger_of c.self.inside.width (replicate c.self.inside.width c.self.inside.first) xs c.self.inside.starts.items) items ∙ ledger_put c.self.inside.width (replicate c.self.inside.width c.self.inside.first) c.self.inside.changes.items c.self.inside.starts.items c.self.inside.row.items c.self.inside.one.items c.self.inside.two.items c.args.position c.args.payload (omega arith) c.self.invariant ∙ ap (λ (v : LedgerView). with_put v c.args.position c.args.payload) c.self.view_is

pub index_mut-requires : goal.index_mut-requires
index_mut-requires c =
    let less = in_width c.self.inside.width (replicate c.self.inside.width c.self.inside.first) c.self.inside.changes.items c.self.inside.starts.items c.args.self.now c.args.position c.self.view_is c.requires in
    let long : length c.self.inside.row.items ≡ length (replicate c.self.inside.width c.self.inside.first) = ap length c.self.invariant.now ∙ length-row_with (replicate c.self.inside.width c.self.inside.first) c.self.inside.changes.items in
    let wide = length-replicate c.self.inside.width c.self.inside.first in
    omega (arith, less, long, wide)
