-- Those so far are sources.
use Rattle.std.specs.List.{All}
use Rattle.decide_guess.specs.Guess.{IsSourceIn}
use Rattle.decide_pool.proofs.pool.Pool.ones_in.Given as goal

abbrev pub invariant-steps : goal.invariant-steps
invariant-steps l = All (IsSourceIn l.graph) l.ones.items
