-- The row that is kept is that of the step under way.
use Rattle.std.proofs.Common.{◌≡◌, ◌<◌, ◌∙◌, List, ℕ, length, replicate, slice_index, take, ap, sym, arith}
use Rattle.std.proofs.lemmas.List.{get_or_default, length-replicate, take_all}
use Rattle.base_ledger.specs.Ledger.{LedgerView, row_with}
use Rattle.base_ledger.proofs.Kept.{in_width}
use Rattle.base_ledger.proofs.Rows.{length-row_with}
use Rattle.base_ledger.proofs.ledger.Ledger.now.Goals as goal

pub index-requires : goal.index-requires
index-requires c =
    let less = in_width c.self.inside.width (replicate c.self.inside.width c.self.inside.first) c.self.inside.changes.items c.self.inside.starts.items c.args.self.now c.args.position c.self.view_is c.requires in
    let long : length c.self.inside.row.items ≡ length (replicate c.self.inside.width c.self.inside.first) = ap length c.self.invariant.now ∙ length-row_with (replicate c.self.inside.width c.self.inside.first) c.self.inside.changes.items in
    let wide = length-replicate c.self.inside.width c.self.inside.first in
    omega (arith, less, long, wide)

pub returns : goal.returns
returns c =
    let less = in_width c.self.inside.width (replicate c.self.inside.width c.self.inside.first) c.self.inside.changes.items c.self.inside.starts.items c.args.self.now c.args.position c.self.view_is c.requires in
    let long : length c.self.inside.row.items ≡ length (replicate c.self.inside.width c.self.inside.first) = ap length c.self.invariant.now ∙ length-row_with (replicate c.self.inside.width c.self.inside.first) c.self.inside.changes.items in
    let wide = length-replicate c.self.inside.width c.self.inside.first in
    let room : c.args.position < length c.self.inside.row.items = omega (arith, less, long, wide) in
    let all : row_with (replicate c.self.inside.width c.self.inside.first) (take (length c.self.inside.changes.items) c.self.inside.changes.items) ≡ c.args.self.now.last.row = ap (λ (v : LedgerView). v.last.row) c.self.view_is in
    let whole = take_all (length c.self.inside.changes.items) c.self.inside.changes.items (omega arith) in
    let row : c.self.inside.row.items ≡ c.args.self.now.last.row = c.self.invariant.now ∙ ap (row_with (replicate c.self.inside.width c.self.inside.first)) (sym whole) ∙ all in
    c.index.ensures ∙ get_or_default c.self.inside.row.items c.args.position c.index.result.now 0 room ∙ ap (λ (r : List ℕ). slice_index r c.args.position) row
