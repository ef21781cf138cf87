-- The places that are left decide.
use Rattle.std.proofs.Common.{◌≡◌, drop}
use Rattle.law_model.specs.Mask.{masked}
use Rattle.wave_class.proofs.assigned.NumberedBitSource.bit.Given as goal

abbrev pub invariant-places : goal.invariant-places
invariant-places l = masked l.self.places.now l.self.number l.place ≡ masked (drop l.k-index l.self.places.now) l.rest
    l.place
