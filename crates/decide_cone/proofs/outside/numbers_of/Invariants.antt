-- The numbers so far.
use Rattle.std.proofs.Common.{◌≡◌, map, take}
use Rattle.design_circuit.specs.Circuit.{job_in}
use Rattle.decide_cone.specs.Boundary.{number_in}
use Rattle.decide_cone.proofs.outside.numbers_of.Given as goal

abbrev pub invariant-nodes : goal.invariant-nodes
invariant-nodes l = l.numbers.items ≡ map (number_in (job_in l.circuit)) (take l.node-index l.nodes)
