-- One name of the scope less.
use Rattle.std.proofs.Common.{length}
use Rattle.replay_code.proofs.lookup.+below.Given as goal

abbrev pub decreases-below : goal.decreases-below
decreases-below l = length l.scope.now
