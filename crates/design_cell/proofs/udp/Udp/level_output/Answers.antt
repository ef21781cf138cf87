-- The value is the output of the first level row that matches, and so of any.
use Rattle.design_cell.proofs.Looks.{held}
use Rattle.design_cell.proofs.Holds.{level_exact, level_result}
use Rattle.design_cell.proofs.udp.Udp.level_output.Goals as goal

pub returns : goal.returns
returns c =
    let t = c.args.self.now in
    let holds = held _ t _ c.deref.result.now c.self.view_is c.deref.ensures.value c.self.invariant in
    let e = level_result t c.deref.result.now c.args.pins.now c.args.q c.output.result c.search.result.level holds c.requires c.search.ensures.level c.output.ensures in
    record {
      value = e;
      exact = λ bit known. level_exact t c.args.pins.now c.args.q c.output.result bit holds.legal c.requires e known;
    }
