-- The first places are copied.
use Rattle.std.proofs.Common.{◌≡◌, take}
use Rattle.cert_condition.proofs.copy.copy_of_places.Given as goal

abbrev pub invariant-places : goal.invariant-places
invariant-places l = l.copies.items ≡ take l.place-index l.places
