-- The row is the first level row that matches.
use Rattle.design_cell.proofs.Looks.{held, row_result}
use Rattle.design_cell.proofs.udp.Udp.row_of.Goals as goal

pub returns : goal.returns
returns c =
    let t = c.args.self.now in
    let holds = held _ t _ c.deref.result.now c.self.view_is c.deref.ensures.value c.self.invariant in
    row_result t c.deref.result.now c.args.pins.now c.numbered.result c.search.result.level holds c.requires.kind c.requires.pins c.search.ensures.level c.numbered.ensures
