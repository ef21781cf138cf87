-- The least of the places so far.
use Rattle.std.proofs.Common.{take}
use Rattle.wave_class.specs.Arguments.{IsLeastFrom}
use Rattle.wave_class.proofs.arguments.least_from.Given as goal

abbrev pub invariant-places : goal.invariant-places
invariant-places l = IsLeastFrom (take l.place-index l.places) l.bound l.least
