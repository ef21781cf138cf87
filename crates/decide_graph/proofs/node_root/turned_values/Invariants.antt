-- The values so far.
use Rattle.decide_graph.proofs.TurnedTables.{TurnedSoFar}
use Rattle.decide_graph.proofs.node_root.turned_values.Given as goal

abbrev pub invariant-numbers : goal.invariant-numbers
invariant-numbers l = TurnedSoFar l.roots l.values l.number l.turned.items
