-- What is found in the blocks so far.
use Rattle.std.specs.Prelude.{MatchOption}
use Rattle.decide_tables.specs.Other.{AreAll, IsLeastOtherBelow}
use Rattle.decide_tables.proofs.other.other_number.Given as goal

abbrev pub invariant-numbers : goal.invariant-numbers
invariant-numbers l = MatchOption l.found (AreAll l.blocks l.empty l.block) (IsLeastOtherBelow l.blocks l.empty l.block)
