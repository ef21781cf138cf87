-- The choices so far came in as implications.
use Rattle.std.proofs.Common.{◌≡◌, ◌++◌, map, take}
use Rattle.decide_guess.specs.Codes.{implication_of}
use Rattle.decide_guess.proofs.codes.add_implications.Given as goal

abbrev pub invariant-choices : goal.invariant-choices
invariant-choices l = l.implications.items
    ≡ l.initial.implications.items ++ map (implication_of l.forced) (take l.choice-index l.choice-items)
