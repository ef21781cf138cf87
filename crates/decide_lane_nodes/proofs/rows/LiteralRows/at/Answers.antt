-- The literal stands behind the rows that are left out.
use Rattle.std.proofs.Common.{◌<◌, length, slice_index_or, ap, sym, subst, ◌∙◌, arith}
use Rattle.decide_lane_nodes.specs.Literal.{no_literal}
use Rattle.decide_lane_nodes.specs.Rows.{RowsView}
use Rattle.decide_lane_nodes.proofs.GoingRows.{literal_there}
use Rattle.decide_lane_nodes.proofs.rows.LiteralRows.at.Goals as goal

pub returns : goal.returns
returns c =
    let is = c.self.invariant in
    let inside = is.inside in
    c.literal_in.ensures
    ∙ literal_there c.self.inside.width c.self.inside.whole c.self.inside.position c.self.inside.kept c.args.number
    is.kept is.few (omega (arith, inside))
    (subst (λ (v : RowsView). c.args.number < length v.literals) (sym c.self.view_is) c.requires)
    ∙ ap (λ (v : RowsView). slice_index_or v.literals c.args.number no_literal) c.self.view_is
