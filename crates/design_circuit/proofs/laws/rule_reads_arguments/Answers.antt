-- The law, for every job.
use Rattle.design_circuit.proofs.Rules.{rule_reads}
use Rattle.design_circuit.proofs.laws.rule_reads_arguments.Goals as goal

pub returns : goal.returns
returns c = λ j c f g place agree. rule_reads j c f g place agree
