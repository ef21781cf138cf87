-- The position is what the row under way has.
use Rattle.std.proofs.Common.{◌-◌, ◌%◌, length, ap, sym, ◌∙◌}
use Rattle.decide_lane_nodes.specs.Rows.{RowsView}
use Rattle.decide_lane_nodes.proofs.GoingRows.{rows_position}
use Rattle.decide_lane_nodes.proofs.rows.LiteralRows.room.Goals as goal

pub returns-clause-room : goal.returns-clause-room
returns-clause-room c =
    let is = c.self.invariant in
    ap (λ n. c.self.inside.width - n) (sym (rows_position c.self.inside.width c.self.inside.whole
    c.self.inside.position c.self.inside.kept is.kept is.few is.inside))
    ∙ ap (λ (v : RowsView). v.width - length v.literals % v.width) c.self.view_is
