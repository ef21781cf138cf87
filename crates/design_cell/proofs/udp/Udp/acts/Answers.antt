-- One search tells both whether a level row matches and what an edge row gives.
use Rattle.std.proofs.Common.{◌∙◌, ap}
use Rattle.design_cell.specs.Clock.{is_known_other}
use Rattle.design_cell.proofs.Looks.{held, acts_result}
use Rattle.design_cell.proofs.udp.Udp.acts.Goals as goal

pub returns-then-is_none : goal.returns-then-is_none
returns-then-is_none c =
    let t = c.args.self.now in
    let q = c.args.q in
    let holds = held _ t _ c.deref.result.now c.self.view_is c.deref.ensures.value c.self.invariant in
    let e = acts_result t c.deref.result.now c.args.pins.now c.args.pin c.args.old q c.search-found.result.level c.search-found.result.edge holds c.requires.pins c.search-found.ensures.level c.search-found.ensures.edge in
    let none = rw (c.if-is_none.ensures) at e in
    c.is_known_other.ensures ∙ ap (λ v. is_known_other v q) c.output.ensures ∙ none

pub returns-else-is_none : goal.returns-else-is_none
returns-else-is_none c =
    let t = c.args.self.now in
    let holds = held _ t _ c.deref.result.now c.self.view_is c.deref.ensures.value c.self.invariant in
    let e = acts_result t c.deref.result.now c.args.pins.now c.args.pin c.args.old c.args.q c.search-found.result.level c.search-found.result.edge holds c.requires.pins c.search-found.ensures.level c.search-found.ensures.edge in
    let some = rw (c.if-is_none.ensures) at e in
    c.if-is_none.false ∙ some
