-- What a condition keeps are turns of its place.
use Rattle.cert_turns.proofs.StatedTurns.{states_turns}
use Rattle.cert_turns.proofs.laws.conditions_state_turns.Goals as goal

pub returns : goal.returns
returns c = states_turns
