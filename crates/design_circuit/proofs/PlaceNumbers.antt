-- A place of a job is that of its number.
use Rattle.std.proofs.Common.{◌≡◌, ℕ, ◌<◌, refl, ap, ◌∙◌, arith}
use Rattle.std.specs.Prelude.{◌+◌, ◌*◌, slice_index}
use Rattle.std.proofs.lemmas.Nat.{div-mul-add, mod-mul-add}
use Rattle.design_circuit.proofs.OrderLemmas.{net_at_position}
use Rattle.design_circuit.proofs.Rules.{position_in}
use Rattle.design_circuit.specs.declared.place.Place.{Place}
use Rattle.design_circuit.specs.Order.{position_of}
use Rattle.design_circuit.specs.Filling.{IsPlace}
use Rattle.design_circuit.specs.Fits.{Fits, place_at}
use Rattle.design_circuit.specs.Job.{Job, number_of}

place_there : (j : Job) (step position : ℕ) → position < j.width
    → place_at j (step * j.width + position) ≡ record { step = step; net = slice_index j.order position }
place_there j step position less =
    rw (div-mul-add step j.width position less, mod-mul-add step j.width position less) refl

pub place_back : (j : Job) → Fits j → (place : Place) → IsPlace j place → place_at j (number_of j place) ≡ place
place_back j fits place is =
    let all = fits.all in
    let net = is.net in
    let at = fits.ordering.each place.net (omega arith) in
    place_there j place.step (position_of j.order place.net) (position_in j fits place.net is.net)
    ∙ ap (λ (n : ℕ). there place.step n) (net_at_position j.order place.net at.0 at.1 at.2)
  where
    there : ℕ → ℕ → Place
    there step net = record { step = step; net = net }
