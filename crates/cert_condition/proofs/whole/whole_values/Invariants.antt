-- The values of the numbers so far.
use Rattle.design_circuit.specs.Job.{number_of}
use Rattle.wave_proved.specs.Contents.{job}
use Rattle.cert_condition.specs.TurnNodes.{AreFirstValues}
use Rattle.cert_condition.proofs.whole.whole_values.Given as goal

abbrev pub invariant-numbers : goal.invariant-numbers
invariant-numbers l = AreFirstValues l.wave (number_of (job l.wave) l.place) l.number l.values.items
