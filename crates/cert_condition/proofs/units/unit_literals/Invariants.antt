-- The literals so far.
use Rattle.std.proofs.Common.{◌≡◌, map, take}
use Rattle.cert_condition.specs.First.{unit_says}
use Rattle.cert_condition.proofs.units.unit_literals.Given as goal

abbrev pub invariant-numbers : goal.invariant-numbers
invariant-numbers l = l.units.items ≡ map (unit_says l.wave l.places l.literals) (take l.number-index l.numbers)
