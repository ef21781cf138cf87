-- Behind the last row there is no edge.
use Rattle.std.proofs.Common.{◌≡◌, ◌+◌, arith, refl}
use Rattle.design_cell.specs.Row.{row_at, nowhere}
use Rattle.design_cell.proofs.Masks.{beyond}
use Rattle.design_cell.proofs.index.is_edge_at.Goals as goal

pub returns-else-i-rows : goal.returns-else-i-rows
returns-else-i-rows c =
    let e : row_at c.args.rows.now (c.args.base + c.args.i) ≡ nowhere = beyond c.args.rows.now (c.args.base + c.args.i) (omega arith) in
    rw e refl
