-- Whole rows, and a part of one.
use Rattle.std.proofs.Common.{length, ap, sym, ◌∙◌, arith}
use Rattle.decide_lane_nodes.specs.Rows.{RowsView}
use Rattle.decide_lane_nodes.proofs.GoingRows.{rows_long}
use Rattle.decide_lane_nodes.proofs.rows.LiteralRows.len.Goals as goal

pub returns : goal.returns
returns c =
    let is = c.self.invariant in
    let inside = is.inside in
    sym (rows_long c.self.inside.width c.self.inside.whole c.self.inside.position c.self.inside.kept is.kept is.few
    (omega (arith, inside)))
    ∙ ap (λ (v : RowsView). length v.literals) c.self.view_is
