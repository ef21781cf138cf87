-- The places so far are those that have the bit.
use Rattle.std.proofs.Common.{◌≡◌, false, slice_index_or}
use Rattle.wave_proved.specs.Contents.{job}
use Rattle.test_repair.proofs.ChosenPlaces.{chosen_places}
use Rattle.test_repair.proofs.fillings.filling_of.Given as goal

abbrev pub invariant-places : goal.invariant-places
invariant-places l =
    l.places.items ≡ chosen_places (job l.wave) (λ k. slice_index_or l.bits k false) l.number
