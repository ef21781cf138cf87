-- The value is the output of the first level row that matches, and so of any.
use Rattle.std.proofs.Common.{sym, subst}
use Rattle.design_cell.specs.declared.value.Value.{Value}
use Rattle.design_cell.specs.Table.{IsLook}
use Rattle.design_cell.proofs.Looks.{held, look_result}
use Rattle.design_cell.proofs.Unordered.{is_look}
use Rattle.design_cell.proofs.udp.Udp.look.Goals as goal

pub returns : goal.returns
returns c =
    let t = c.args.self.now in
    let pins = c.args.pins.now in
    let holds = held _ t _ c.deref.result.now c.self.view_is c.deref.ensures.value c.self.invariant in
    let e = look_result t c.deref.result.now pins c.output.result c.search.result.level holds c.requires.kind c.requires.pins c.search.ensures.level c.output.ensures in
    record { value = e; any_row = subst (λ (v : Value). IsLook c.args.self.now c.args.pins.now v) (sym e) (is_look t pins c.requires.kind holds.legal c.requires.pins) }
