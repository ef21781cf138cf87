-- The nodes so far have their literals, and their variables are counted.
use Rattle.std.proofs.Common.{◌≡◌, take}
use Rattle.decide_cnf.specs.Literals.{AreLiterals, variables_of}
use Rattle.decide_cnf.proofs.literals.literals_of.Given as goal

abbrev pub invariant-nodes : goal.invariant-nodes
invariant-nodes l = record {
  are : AreLiterals (take l.node-index l.nodes) l.literals.items;
  variables : l.variables ≡ variables_of (take l.node-index l.nodes);
}
