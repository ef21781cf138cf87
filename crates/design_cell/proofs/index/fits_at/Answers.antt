-- Behind the last row nothing fits.
use Rattle.std.proofs.Common.{◌≡◌, ◌+◌, sym, arith}
use Rattle.design_cell.specs.Row.{row_at, nowhere}
use Rattle.design_cell.proofs.Masks.{beyond, nowhere_fits}
use Rattle.design_cell.proofs.index.fits_at.Goals as goal

pub returns-else-i-rows : goal.returns-else-i-rows
returns-else-i-rows c =
    let e : row_at c.args.rows.now (c.args.base + c.args.i) ≡ nowhere = beyond c.args.rows.now (c.args.base + c.args.i) (omega arith) in
    sym (rw e (nowhere_fits c.args.c c.args.old c.args.new))
