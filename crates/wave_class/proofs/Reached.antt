-- Nets whose places stand before a place.
use Rattle.std.proofs.Common.{◌≡◌, ℕ, ◌-◌, ◌<◌, ◌==◌, false, List, [], ◌∷◌, arith}
use Rattle.std.specs.List.{AllByRecursion}
use Rattle.design_circuit.specs.Circuit.{IsSpot, Reach}
use Rattle.design_circuit.specs.declared.spot.Spot.{Spot}
use Rattle.design_circuit.specs.Fits.{Fits, StandsBefore}
use Rattle.design_circuit.specs.Job.{Job}
use Rattle.design_circuit.specs.Order.{position_of}
use Rattle.design_circuit.proofs.Rules.{position_in, back_one}

pub one_standing : (j : Job) (place : ℕ) (spot : Spot) (net : ℕ) → IsSpot j place spot
    → StandsBefore j spot.position net → Reach j (λ k. k < place) spot.step net
one_standing j place spot net is stands =
    let whole = is.place_is in
    let low = stands.before in
    record { within = stands.within; has_it = omega (arith, whole, low) }

pub nets_standing : (j : Job) (place : ℕ) (spot : Spot) (nets : List ℕ) → IsSpot j place spot
    → AllByRecursion (StandsBefore j spot.position) nets → AllByRecursion (Reach j (λ k. k < place) spot.step) nets
nets_standing j place spot [] is stands = tt
nets_standing j place spot (net ∷ nets) is stands =
    (one_standing j place spot net is stands.0, nets_standing j place spot nets is stands.1)

pub nets_back : (j : Job) → Fits j → (place : ℕ) (spot : Spot) (nets : List ℕ) → IsSpot j place spot → 0 < spot.step
    → AllByRecursion (λ net. net < j.width) nets → AllByRecursion (Reach j (λ k. k < place) (spot.step - 1)) nets
nets_back j fits place spot [] is later within = tt
nets_back j fits place spot (net ∷ nets) is later within =
    let whole = is.place_is in
    let back = back_one j.width spot.step (position_of j.order net) spot.position (later_is spot.step later)
    (position_in j fits net within.0) in (
      record { within = within.0; has_it = omega (arith, whole, back) },
      nets_back j fits place spot nets is later within.1,
    )
  where
    later_is : (step : ℕ) → 0 < step → (step == 0) ≡ false
    later_is step h = grind arith
