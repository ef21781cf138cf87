-- The value is the output of the first level row that matches, else of the first edge row, and so of any; the row is that one.
use Rattle.std.proofs.Common.{◌∙◌, ap, sym, subst}
use Rattle.design_cell.specs.declared.value.Value.{Value}
use Rattle.design_cell.specs.Deciding.{numbered}
use Rattle.design_cell.specs.Table.{IsChange}
use Rattle.design_cell.specs.Index.{output_at}
use Rattle.design_cell.proofs.Looks.{held, change_result, row_of_change_result}
use Rattle.design_cell.proofs.Unordered.{is_change}
use Rattle.design_cell.proofs.udp.Udp.changed.Goals as goal

pub returns : goal.returns
returns c =
    let t = c.args.self.now in
    let pins = c.args.pins.now in
    let holds = held _ t _ c.deref.result.now c.self.view_is c.deref.ensures.value c.self.invariant in
    let e = change_result t c.deref.result.now pins c.args.pin c.args.old c.args.q c.output.result c.search-found.result.level c.search-found.result.edge holds c.requires.pins c.search-found.ensures.level c.search-found.ensures.edge (c.output.ensures ∙ ap (λ k. output_at c.args.self.now.rows k c.args.q) c.row-row.ensures) in
    record {
      value = e;
      any_row = subst (λ (v : Value). IsChange c.args.self.now c.args.pins.now c.args.pin c.args.old c.args.q v) (sym e) (is_change t pins c.args.pin c.args.old c.args.q holds.legal.apart c.requires.pins c.requires.pin);
      row = row_of_change_result t c.deref.result.now pins c.args.pin c.args.old c.args.q c.numbered.result c.search-found.result.level c.search-found.result.edge holds c.requires.pins c.search-found.ensures.level c.search-found.ensures.edge (c.numbered.ensures ∙ ap numbered c.row-row.ensures);
    }
