-- The law, for every job.
use Rattle.design_circuit.proofs.Worlds.{world_is}
use Rattle.design_circuit.proofs.laws.worlds_exist.Goals as goal

pub returns : goal.returns
returns c = λ j fits c f. world_is j fits c f
