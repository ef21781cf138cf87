-- The round trip.
use Rattle.replay_code.proofs.OwnCode.{own_says}
use Rattle.replay_code.proofs.laws.own_code_is_read.Goals as goal

pub returns : goal.returns
returns c = own_says
