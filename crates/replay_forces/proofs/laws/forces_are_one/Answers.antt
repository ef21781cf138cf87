-- The law, for all events.
use Rattle.replay_forces.proofs.Showing.{forces_are_one}
use Rattle.replay_forces.proofs.laws.forces_are_one.Goals as goal

pub returns : goal.returns
returns c = λ j values events fits are. forces_are_one j values events are
