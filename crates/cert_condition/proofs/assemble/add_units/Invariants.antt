-- The first units are added.
use Rattle.std.proofs.Common.{◌≡◌, ◌++◌, ◌∷◌, [], map, take}
use Rattle.cert_condition.proofs.assemble.add_units.Given as goal

abbrev pub invariant-units : goal.invariant-units
invariant-units l = l.clauses.items ≡ l.initial.clauses.items ++ map (λ u. u ∷ []) (take l.unit-index l.units)
