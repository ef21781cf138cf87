-- The law, for all values.
use Rattle.replay_forces.proofs.Showing.{forces_exist}
use Rattle.replay_forces.proofs.laws.forces_exist.Goals as goal

pub returns : goal.returns
returns c = λ j values fits. forces_exist j values fits
