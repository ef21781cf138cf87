-- The law, for every forcing.
use Rattle.replay_forces.proofs.Showing.{changes_replay}
use Rattle.replay_forces.proofs.laws.changes_replay.Goals as goal

pub returns : goal.returns
returns c = λ j forced history fits is. changes_replay j forced history fits is
