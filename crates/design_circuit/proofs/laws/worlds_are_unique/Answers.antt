-- The law, for every job.
use Rattle.design_circuit.proofs.Worlds.{world_once}
use Rattle.design_circuit.proofs.laws.worlds_are_unique.Goals as goal

pub returns : goal.returns
returns c = λ j fits c f w is place within. world_once j fits c f w is place within
