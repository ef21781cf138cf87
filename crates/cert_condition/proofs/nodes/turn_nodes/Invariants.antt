-- The nodes so far are the first ones.
use Rattle.cert_condition.specs.TurnNodes.{AreFirstNodes}
use Rattle.cert_condition.proofs.nodes.turn_nodes.Given as goal

abbrev pub invariant-places : goal.invariant-places
invariant-places l = AreFirstNodes l.wave l.places l.inside l.position l.nodes.items
