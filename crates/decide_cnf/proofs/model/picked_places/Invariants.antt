-- The nodes so far are picked, and their variables are counted.
use Rattle.std.proofs.Common.{◌≡◌, take}
use Rattle.sat_proof.specs.Assignment.{assigned}
use Rattle.decide_cnf.specs.Literals.{variables_of}
use Rattle.decide_cnf.specs.Models.{picked_places}
use Rattle.decide_cnf.proofs.model.picked_places.Given as goal

abbrev pub invariant-nodes : goal.invariant-nodes
invariant-nodes l = record {
  places : l.places.items ≡ picked_places l.nodes (assigned l.values) l.node-index;
  variables : l.variables ≡ variables_of (take l.node-index l.nodes);
}
