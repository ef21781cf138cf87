-- The law, for every job.
use Rattle.design_circuit.proofs.Rules.{arguments_below}
use Rattle.design_circuit.proofs.laws.arguments_stand_before.Goals as goal

pub returns : goal.returns
returns c = λ j fits c place within. arguments_below j fits c place within
