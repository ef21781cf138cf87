-- The law, for every forcing.
use Rattle.replay_forces.proofs.Forced.{are_events, changes_force}
use Rattle.replay_forces.proofs.laws.changes_force.Goals as goal

pub returns : goal.returns
returns c = λ j forced fits. (are_events j fits forced, changes_force j fits forced)
