-- The law, for every history.
use Rattle.replay_forces.proofs.Showing.{forces_show}
use Rattle.replay_forces.proofs.laws.forces_show.Goals as goal

pub returns : goal.returns
returns c = λ j values events history fits are is. forces_show j values events history are is
