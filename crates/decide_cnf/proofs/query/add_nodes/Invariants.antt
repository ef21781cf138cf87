-- The lists have grown by the clauses of the nodes so far.
use Rattle.decide_cnf.specs.Growth.{IsEarlyClause, IsGrown}
use Rattle.decide_cnf.proofs.query.add_nodes.Given as goal

abbrev pub invariant-nodes : goal.invariant-nodes
invariant-nodes l = IsGrown (IsEarlyClause l.nodes l.literals l.position) l.initial.lists l.lists
