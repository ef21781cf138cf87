-- The certain ones of the numbers so far.
use Rattle.std.proofs.Common.{◌≡◌, filter, take}
use Rattle.decide_cone.specs.Boundary.{is_certain_in}
use Rattle.decide_cone.proofs.outside.certain_of.Given as goal

abbrev pub invariant-numbers : goal.invariant-numbers
invariant-numbers l = l.certain.items ≡ filter (is_certain_in l.wave) (take l.number-index l.numbers)
