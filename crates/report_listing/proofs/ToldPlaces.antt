-- The bits that are told, and their sources, are at places of the job.
use Rattle.std.proofs.Common.{Bool, true, false, cond, List, [], ◌∷◌, length, sym, subst, arith}
use Rattle.std.specs.List.{AllByRecursion, filter}
use Rattle.design_circuit.specs.Filling.{IsPlace}
use Rattle.design_circuit.proofs.Reaching.{step_small}
use Rattle.recording_binding.specs.Binding.{FitsBinding}
use Rattle.recording_binding.specs.BoundBits.{IsBitOf, bound_bits}
use Rattle.recording_binding.specs.declared.binding.Binding.{Binding}
use Rattle.recording_binding.specs.declared.bound_bits.BoundBit.{BoundBit}
use Rattle.recording_binding.proofs.BoundBitLemmas.{bits_within}
use Rattle.wave_proved.specs.Contents.{Contents, job}
use Rattle.report_bits.specs.BoundPlaces.{bit_place}
use Rattle.report_blame.specs.Blamed.{AreBlamed, is_unknown_bit, unknown_bits}
use Rattle.report_blame.specs.declared.bits.Blamed.{Blamed}
use Rattle.report_listing.specs.Blame.{HasPlaces}

kept : {X : Type 0} (P : X → Type 0) (x : X) (xs : List X) (is : Bool) → P x → AllByRecursion P xs
    → AllByRecursion P (cond is (x ∷ xs) xs)
kept P x xs true here all = (here, all)
kept P x xs false here all = all

pub all_kept : {X : Type 0} (P : X → Type 0) (p : X → Bool) (xs : List X) → AllByRecursion P xs → AllByRecursion P (filter p xs)
all_kept P p [] all = tt
all_kept P p (x ∷ xs) all = kept P x (filter p xs) (p x) all.0 (all_kept P p xs all.1)

module _ (c : Contents) where
  pub place_there : (bit : BoundBit) → IsBitOf c.design (length c.stim.times) bit → IsPlace (job c) (bit_place c bit)
  place_there bit is =
      let room = step_small c.stim.rounds bit.moment (length c.stim.times) is.moment in
      let some = c.stim.some_round in
      record { step = omega (arith, room, some); net = is.net }

  places_told : (bits : List BoundBit) (told : List Blamed) → AllByRecursion (IsBitOf c.design (length c.stim.times)) bits
      → AreBlamed c bits told → AllByRecursion (HasPlaces c) told
  places_told [] [] all are = tt
  places_told [] (b ∷ told) all are = absurd are
  places_told (bit ∷ bits) [] all are = absurd are
  places_told (bit ∷ bits) (b ∷ told) all are = (
    record {
      place = subst (IsPlace (job c)) (sym are.0.place) (place_there bit all.0);
      source = are.0.cause.within;
    },
    places_told bits told all.1 are.1,
  )

  -- So are the unknown bits that are told.
  pub unknown_told : (binding : Binding) (told : List Blamed) → FitsBinding c.design binding
      → AreBlamed c (unknown_bits c binding.bound) told → AllByRecursion (HasPlaces c) told
  unknown_told binding told fits are =
      let moments = length c.stim.times in
      let within = bits_within c.design moments binding.bound fits.each in
      places_told (unknown_bits c binding.bound) told
      (all_kept (IsBitOf c.design moments) (is_unknown_bit c) (bound_bits moments binding.bound) within) are
