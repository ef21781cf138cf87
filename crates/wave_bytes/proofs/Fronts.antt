-- Where the next place stands.
use Rattle.std.proofs.Common.{◌≡◌, ℕ, ◌+◌, ◌*◌, ◌/◌, ◌%◌, ◌<◌, ◌≤◌, ◌^◌, sym, ap, ◌∙◌, arith, subst}
use Rattle.std.proofs.lemmas.Nat.{div-mul-add, mod-mul-add}
use Rattle.std.proofs.Math.Nat.{zero-div, zero-mod}
use Rattle.design_circuit.specs.Fits.{Fits, place_at}
use Rattle.design_circuit.specs.Job.{Job, places_of, step_of}
use Rattle.design_circuit.specs.declared.place.Place.{Place}
use Rattle.design_circuit.proofs.Numbers.{is_place_at}
use Rattle.design_circuit.proofs.Rules.{spot}
use Rattle.wave_bytes.specs.Front.{IsAt, IsFront, place_of_front}
use Rattle.wave_bytes.specs.declared.front.Front.{Front}

pub front_first : (j : Job) (front : Front) → front.step ≡ 0 → front.position ≡ 0 → IsAt j 0 front
front_first j front step position = record {
  step = step ∙ sym (zero-div j.width);
  position = position ∙ sym (zero-mod j.width);
}

front_whole : (j : Job) → Fits j → (place : ℕ) (front : Front) → place < places_of j → IsAt j place front
    → front.step * j.width + front.position ≡ place
front_whole j fits place front within is =
    ap (λ s. s * j.width + front.position) is.step ∙ ap (λ p. step_of j place * j.width + p) is.position
    ∙ (spot j fits place within).whole

-- The place behind it stands at the next position, or at the first of the next step.
pub next_position : (j : Job) → Fits j → (place : ℕ) (front next : Front) → place < places_of j → IsAt j place front
    → next.step ≡ front.step → next.position ≡ front.position + 1 → front.position + 1 < j.width
    → IsAt j (place + 1) next
next_position j fits place front next within is step position less =
    let whole = front_whole j fits place front within is in
    let more : place + 1 ≡ front.step * j.width + (front.position + 1) = omega (arith, whole) in
    record {
      step = step ∙ sym (ap (λ n. n / j.width) more ∙ div-mul-add front.step j.width (front.position + 1) less);
      position = position ∙ sym (ap (λ n. n % j.width) more ∙ mod-mul-add front.step j.width (front.position + 1) less);
    }

next_row : (w t p place : ℕ) → t * w + p ≡ place → p + 1 ≡ w → place + 1 ≡ (t + 1) * w + 0
next_row w t p place whole full = omega (arith, whole, full)

pub next_step : (j : Job) → Fits j → (place : ℕ) (front next : Front) → place < places_of j → IsAt j place front
    → next.step ≡ front.step + 1 → next.position ≡ 0 → j.width ≤ front.position + 1 → IsAt j (place + 1) next
next_step j fits place front next within is step position full =
    let whole = front_whole j fits place front within is in
    let low = (spot j fits place within).position in
    let here = is.position in
    let some : 0 < j.width = omega (arith, low) in
    let more : place + 1 ≡ (front.step + 1) * j.width + 0 =
    next_row j.width front.step front.position place whole (omega (arith, low, here, full)) in
    record {
      step = step ∙ sym (ap (λ n. n / j.width) more ∙ div-mul-add (front.step + 1) j.width 0 some);
      position = position ∙ sym (ap (λ n. n % j.width) more ∙ mod-mul-add (front.step + 1) j.width 0 some);
    }

-- The place behind so many places of its step.
pub after_position : (j : Job) → Fits j → (place many : ℕ) (front next : Front) → place < places_of j
    → IsAt j place front
    → next.step ≡ front.step → next.position ≡ front.position + many → front.position + many < j.width
    → IsAt j (place + many) next
after_position j fits place many front next within is step position less =
    let whole = front_whole j fits place front within is in
    let more : place + many ≡ front.step * j.width + (front.position + many) = omega (arith, whole) in
    record {
      step = step ∙ sym (ap (λ n. n / j.width) more ∙ div-mul-add front.step j.width (front.position + many) less);
      position = position ∙ sym (ap (λ n. n % j.width) more ∙ mod-mul-add front.step j.width (front.position + many)
          less);
    }

row_behind : (w t p place many : ℕ) → t * w + p ≡ place → p + many ≡ w → place + many ≡ (t + 1) * w + 0
row_behind w t p place many whole full = omega (arith, whole, full)

pub after_step : (j : Job) → Fits j → (place many : ℕ) (front next : Front) → place < places_of j → IsAt j place front
    → next.step ≡ front.step + 1 → next.position ≡ 0 → front.position + many ≡ j.width → IsAt j (place + many) next
after_step j fits place many front next within is step position full =
    let whole = front_whole j fits place front within is in
    let low = (spot j fits place within).position in
    let some : 0 < j.width = omega (arith, low) in
    let more : place + many ≡ (front.step + 1) * j.width + 0 =
    row_behind j.width front.step front.position place many whole full in
    record {
      step = step ∙ sym (ap (λ n. n / j.width) more ∙ div-mul-add (front.step + 1) j.width 0 some);
      position = position ∙ sym (ap (λ n. n % j.width) more ∙ mod-mul-add (front.step + 1) j.width 0 some);
    }

-- So many are no more than the step has from there on.
rest_of_row : (w t p place many : ℕ) → t * w + p ≡ place → place + many ≤ (t + 1) * w → p + many ≤ w
rest_of_row w t p place many whole up = omega (arith, whole, up)

pub stretch_rest : (j : Job) → Fits j → (place many : ℕ) (front : Front) → place < places_of j → IsAt j place front
    → place + many ≤ (step_of j place + 1) * j.width → front.position + many ≤ j.width
stretch_rest j fits place many front within is up =
    rest_of_row j.width front.step front.position place many (front_whole j fits place front within is)
    (subst (λ s. place + many ≤ (s + 1) * j.width) (sym is.step) up)

-- A step fits its number.
pub small_step : (j : Job) → Fits j → j.moments * j.rounds ≤ 2 ^ 32 → (place : ℕ) (front : Front) → place < places_of j
    → IsAt j place front → front.step < 2 ^ 32
small_step j fits few place front within is =
    let low = (is_place_at j place fits.ordering fits.all within).step in
    let same = is.step in
    omega (arith, low, same, few)

pub is_front : (j : Job) → Fits j → j.moments * j.rounds ≤ 2 ^ 32 → (place : ℕ) (front : Front) → place < places_of j
    → IsAt j place front → IsFront j front
is_front j fits few_steps place front within is =
    let small = small_step j fits few_steps place front within is in
    let low = (spot j fits place within).position in
    let here = is.position in
    let all = fits.all in
    let few = fits.few_nets in
    record {
      step = omega (arith, small);
      position = omega (arith, low, here, all);
      few = omega (arith, all, few);
    }

pub front_place : (j : Job) (place : ℕ) (front : Front) → IsAt j place front → place_of_front j front ≡ place_at j place
front_place j place front is =
    ap (λ s. let p : Place = record { step = s; net = (place_of_front j front).net } in p) is.step
    ∙ ap (λ n. let f : Front = record { step = step_of j place; position = n } in place_of_front j f) is.position
