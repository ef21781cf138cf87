-- A job has one replay under forces.
use Rattle.std.proofs.Common.{◌≡◌, ◌∙◌, ℕ, ◌+◌, ◌*◌, ◌/◌, ◌%◌, ◌<◌, length, Option, ap, sym, arith}
use Rattle.std.specs.Prelude.{slice_index_or}
use Rattle.std.proofs.lemmas.List.{ext_get_or}
use Rattle.std.proofs.lemmas.Nat.{div-add-mod', mul-add-lt}
use Rattle.std.proofs.Math.Nat.{mod-lt, mul_comm, div-lt_iff_lt-mul}
use Rattle.design_cell.specs.declared.value.Value.{Value}
use Rattle.design_circuit.specs.declared.place.Place.{Place}
use Rattle.design_circuit.specs.Filling.{IsPlace}
use Rattle.design_circuit.specs.Fits.{Fits}
use Rattle.design_circuit.specs.Handed.{IsReplayUnder}
use Rattle.design_circuit.specs.History.{HistoryView, held_in}
use Rattle.design_circuit.specs.Job.{Job, number_of, places_of}
use Rattle.design_circuit.specs.Order.{position_of}
use Rattle.design_circuit.specs.Replay.{blank}
use Rattle.design_circuit.proofs.OrderLemmas.{position_within}
use Rattle.design_circuit.proofs.Rules.{some_width}
use Rattle.design_circuit.proofs.PlaceNumbers.{place_back}

module _ (j : Job) (fits : Fits j) where
  -- A place of the job has a number below that of all places.
  number_within : (place : Place) → IsPlace j place → number_of j place < places_of j
  number_within place is =
      let all = fits.all in
      let net = is.net in
      let there = fits.ordering.each place.net (omega (arith, all, net)) in
      let position : position_of j.order place.net < j.width = (let p = position_within j.order place.net there.0 there.1 there.2 in omega (arith, all, p)) in
      mul-add-lt place.step j.width (position_of j.order place.net) (j.moments * j.rounds) is.step position

  module _ (forced : ℕ → Option Value) (h i : HistoryView) (first : IsReplayUnder j forced h) (second : IsReplayUnder j forced i) where
    held_same : (place : Place) → IsPlace j place → held_in h place ≡ held_in i place
    held_same place is =
        let back = place_back j fits place is in
        let within = number_within place is in
        let number = number_of j place in
        sym (ap (held_in h) back) ∙ first.held number within ∙ sym (second.held number within) ∙ ap (held_in i) back

    index_back : (k : ℕ) → (k / j.width) * h.nets + k % j.width ≡ k
    index_back k = rw first.places.nets (div-add-mod' k j.width)

    index_back_too : (k : ℕ) → (k / j.width) * i.nets + k % j.width ≡ k
    index_back_too k = rw second.places.nets (div-add-mod' k j.width)

    place_same : (k : ℕ) → k < length h.places → slice_index_or h.places k blank ≡ slice_index_or i.places k blank
    place_same k less =
        let all = first.places.all in
        let within : k < places_of j = omega (arith, less, all) in
        let some : 0 < j.width = some_width j.width (j.moments * j.rounds) k within in
        let turned : k < (j.moments * j.rounds) * j.width = rw (mul_comm (j.moments * j.rounds) j.width) within in
        let there : IsPlace j (record { step = k / j.width; net = k % j.width }) = record { step = (div-lt_iff_lt-mul some).1 turned; net = mod-lt k some } in
        sym (ap (λ (n : ℕ). slice_index_or h.places n blank) (index_back k))
        ∙ held_same (record { step = k / j.width; net = k % j.width }) there
        ∙ ap (λ (n : ℕ). slice_index_or i.places n blank) (index_back_too k)

    pub one_history : h ≡ i
    one_history =
        let nets = first.places.nets ∙ sym second.places.nets in
        let places = ext_get_or blank h.places i.places (first.places.all ∙ sym second.places.all) place_same in
        λ t. record { nets = nets t; places = places t }
