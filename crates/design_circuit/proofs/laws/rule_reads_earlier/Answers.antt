-- The law, for every job.
use Rattle.design_circuit.proofs.Rules.{rule_local}
use Rattle.design_circuit.proofs.laws.rule_reads_earlier.Goals as goal

pub returns : goal.returns
returns c = λ j fits c d f g place within certains bits. rule_local j fits c d f g place within certains bits
