-- All positions are written in the end.
use Rattle.std.proofs.Common.{◌≡◌, length, rules, subst, ℕ}
use Rattle.design_circuit.proofs.OrderLemmas.{Placed, placed_all}
use Rattle.design_circuit.proofs.order.positions_of.Goals as goal

pub returns : goal.returns
returns c =
    let all : c.nets.position ≡ length c.args.nets.now = search rules in
    let P : ℕ → Type 0 = λ n. Placed c.args.nets.now c.nets.positions.items n in
    placed_all c.args.nets.now c.nets.positions.items c.requires.ordering c.requires.few (subst P all c.nets.invariant)
