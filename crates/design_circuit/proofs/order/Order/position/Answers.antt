-- The stored position is the one of the list.
use Rattle.std.proofs.Common.{◌≡◌, ◌<◌, ◌∙◌, length, subst, List, ℕ}
use Rattle.std.proofs.lemmas.List.{get_or_default}
use Rattle.design_circuit.specs.Order.{position_of}
use Rattle.design_circuit.proofs.OrderLemmas.{position_indexed}
use Rattle.design_circuit.proofs.order.Order.position.Goals as goal

pub returns-clause-place : goal.returns-clause-place
returns-clause-place c =
    let nets : c.self.inside.nets.items ≡ c.args.self.now = c.self.view_is in
    let within : c.args.net < length c.self.inside.nets.items = rw nets c.requires in
    let stored : c.args.net < length c.self.inside.positions.items = rw c.self.invariant.length_is within in
    let at = position_indexed c.self.inside.nets.items c.self.inside.positions.items c.args.net c.self.invariant within in
    let P : List ℕ → Type 0 = λ nets. c.index.result.now ≡ position_of nets c.args.net in
    subst P nets (c.index.ensures ∙ get_or_default c.self.inside.positions.items c.args.net c.index.result.now 0 stored ∙ at)
