-- The row that is kept is that of the step so many before.
use Rattle.std.proofs.Common.{◌≡◌, ◌<◌, ◌∙◌, List, ℕ, length, replicate, slice_index, take, ap, sym, arith, ◌-◌}
use Rattle.std.proofs.lemmas.List.{get_or_default, length-replicate}
use Rattle.base_ledger.specs.Ledger.{row_with}
use Rattle.base_ledger.proofs.Kept.{back_is, in_width}
use Rattle.base_ledger.proofs.Rows.{length-row_with}
use Rattle.base_ledger.proofs.ledger.Ledger.two_back.Goals as goal

pub index-requires : goal.index-requires
index-requires c =
    let less = in_width c.self.inside.width (replicate c.self.inside.width c.self.inside.first) c.self.inside.changes.items c.self.inside.starts.items c.args.self.now c.args.position c.self.view_is c.requires.position in
    let long = length-row_with (replicate c.self.inside.width c.self.inside.first) (take (slice_index c.self.inside.starts.items (length c.self.inside.starts.items - 2)) c.self.inside.changes.items) in
    let same : length c.self.inside.two.items ≡ length (row_with (replicate c.self.inside.width c.self.inside.first) (take (slice_index c.self.inside.starts.items (length c.self.inside.starts.items - 2)) c.self.inside.changes.items)) = ap length c.self.invariant.two in
    (let wide = length-replicate c.self.inside.width c.self.inside.first in omega (arith, less, long, same, wide))

pub returns : goal.returns
returns c =
    let less = in_width c.self.inside.width (replicate c.self.inside.width c.self.inside.first) c.self.inside.changes.items c.self.inside.starts.items c.args.self.now c.args.position c.self.view_is c.requires.position in
    let long = length-row_with (replicate c.self.inside.width c.self.inside.first) (take (slice_index c.self.inside.starts.items (length c.self.inside.starts.items - 2)) c.self.inside.changes.items) in
    let same : length c.self.inside.two.items ≡ length (row_with (replicate c.self.inside.width c.self.inside.first) (take (slice_index c.self.inside.starts.items (length c.self.inside.starts.items - 2)) c.self.inside.changes.items)) = ap length c.self.invariant.two in
    let room : c.args.position < length c.self.inside.two.items = (let wide = length-replicate c.self.inside.width c.self.inside.first in omega (arith, less, long, same, wide)) in
    let back = back_is c.self.inside.width (replicate c.self.inside.width c.self.inside.first) c.self.inside.changes.items c.self.inside.starts.items c.self.inside.row.items c.self.inside.one.items c.self.inside.two.items c.args.self.now 2 c.self.invariant c.self.view_is (omega arith) c.requires.step in
    c.index.ensures ∙ get_or_default c.self.inside.two.items c.args.position c.index.result.now 0 room ∙ ap (λ (r : List ℕ). slice_index r c.args.position) (c.self.invariant.two ∙ sym back)
