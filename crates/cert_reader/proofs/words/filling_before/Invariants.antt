-- What was to come comes after the places so far.
use Rattle.std.proofs.Common.{◌≡◌, [], length}
use Rattle.cert_reader.specs.Machine.{places_before}
use Rattle.cert_reader.proofs.words.filling_before.Given as goal

abbrev pub invariant-places : goal.invariant-places
invariant-places l = places_before [] l.fn.words ≡ places_before l.places.items l.words

abbrev pub decreases-places : goal.decreases-places
decreases-places l = length l.words
