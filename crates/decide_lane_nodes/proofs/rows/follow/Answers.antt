-- No position is to come.
use Rattle.std.proofs.Common.{arith}
use Rattle.decide_lane_nodes.proofs.GoingRows.{followed}
use Rattle.decide_lane_nodes.proofs.rows.follow.Goals as goal

pub returns : goal.returns
returns c =
    let test = c.moved-test.false in
    let end = c.moved.auto.k-end in
    followed c.args.row.now c.moved.to c.args.moved.now c.moved.k c.moved.invariant.long (omega (arith, test, end))
    c.moved.invariant.agree
