-- Behind the last row the output is x.
use Rattle.std.proofs.Common.{◌≡◌, ◌+◌, ◌∙◌, sym, ap, arith}
use Rattle.design_cell.specs.declared.row.RawRow.{RawRow}
use Rattle.design_cell.specs.Symbol.{output_of}
use Rattle.design_cell.specs.Row.{row_at, nowhere}
use Rattle.design_cell.specs.Index.{code}
use Rattle.design_cell.proofs.Masks.{beyond}
use Rattle.design_cell.proofs.index.output_code.Goals as goal

pub returns-else-i-rows : goal.returns-else-i-rows
returns-else-i-rows c =
    let e : row_at c.args.rows.now (c.args.base + c.args.i) ≡ nowhere = beyond c.args.rows.now (c.args.base + c.args.i) (omega arith) in
    c.code-else-i-rows.ensures.code ∙ sym (ap (λ (r : RawRow). code (output_of r.output c.args.q)) e)
