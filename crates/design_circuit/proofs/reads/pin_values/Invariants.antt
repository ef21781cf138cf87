-- The pins so far are read.
use Rattle.std.proofs.Common.{◌≡◌, take, map, length}
use Rattle.design_circuit.specs.Job.{at}
use Rattle.design_circuit.specs.Register.{pin_of}
use Rattle.design_circuit.specs.Circuit.{job_in}
use Rattle.design_circuit.proofs.reads.pin_values.Given as goal

abbrev pub invariant-pins : goal.invariant-pins
invariant-pins g l = record {
  long : length l.values ≡ 10;
  read : take l.place l.values ≡ map (pin_of (λ net. g.S.Source.reads l.source (at (job_in l.circuit) l.step net))) (take l.place l.pins);
}
