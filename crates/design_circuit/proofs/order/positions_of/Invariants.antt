-- The positions of the nets so far are written.
use Rattle.design_circuit.proofs.OrderLemmas.{Placed}
use Rattle.design_circuit.proofs.order.positions_of.Given as goal

abbrev pub invariant-nets : goal.invariant-nets
invariant-nets l = Placed l.nets l.positions.items l.position
