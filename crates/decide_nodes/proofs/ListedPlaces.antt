-- Whether a filling lists a place, by the place and by its number.
use Rattle.std.proofs.Common.{◌≡◌, ℕ, ◌+◌, ◌*◌, ◌%◌, ◌<◌, ◌==◌, ◌&&◌, Bool, true, false, List, [], ◌∷◌, length, refl, sym, ap, ◌∙◌, arith, ⊎_elim}
use Rattle.std.proofs.Math.Nat.{mod-eq_of_lt, mul-add-mod_self_right}
use Rattle.std.proofs.lemmas.Bool.{and_parts, cases_Bool, cases_eq, eq-eqb, eqb-true, ne_eqb}
use Rattle.std.proofs.lemmas.Nat.{div-mul-add}
use Rattle.std.specs.List.{AllByRecursion}
use Rattle.design_circuit.proofs.Numbers.{number_of_place_at}
use Rattle.design_circuit.proofs.OrderLemmas.{net_at_position, position_within}
use Rattle.design_circuit.specs.declared.place.Place.{Place}
use Rattle.design_circuit.specs.Filling.{IsFilling, IsPlace, bit_of}
use Rattle.design_circuit.specs.Fits.{place_at}
use Rattle.design_circuit.specs.Job.{Job, net_of, number_of, places_of, step_of}
use Rattle.design_circuit.specs.Order.{IsOrdering, position_of}
use Rattle.decide_nodes.specs.Nodes.{is_listed, is_same_place}

module _ (j : Job) (ordering : IsOrdering j.order) (all : length j.order ≡ j.width) where
  position_low : (net : ℕ) → net < j.width → position_of j.order net < j.width
  position_low net within =
      let at = ordering.each net (omega (arith, within, all)) in
      let low = position_within j.order net at.0 at.1 at.2 in omega (arith, low, all)

  -- The step and the net of a place come back from its number.
  step_back : (p : Place) → IsPlace j p → step_of j (number_of j p) ≡ p.step
  step_back p is = div-mul-add p.step j.width (position_of j.order p.net) (position_low p.net is.net)

  rest_back : (p : Place) → IsPlace j p → number_of j p % j.width ≡ position_of j.order p.net
  rest_back p is = mul-add-mod_self_right p.step j.width (position_of j.order p.net)
      ∙ mod-eq_of_lt (position_low p.net is.net)

  net_back : (p : Place) → IsPlace j p → net_of j (number_of j p) ≡ p.net
  net_back p is =
      let at = ordering.each p.net (let within = is.net in omega (arith, within, all)) in
      rw (rest_back p is) (net_at_position j.order p.net at.0 at.1 at.2)

  same_number : (k : ℕ) → k < places_of j → (p : Place) → IsPlace j p
      → is_same_place (place_at j k) p ≡ (number_of j p == k)
  same_number k within p is =
      ⊎_elim (λ (same : number_of j p ≡ k).
      (let step : step_of j k ≡ p.step = ap (step_of j) (sym same) ∙ step_back p is in
      let net : net_of j k ≡ p.net = ap (net_of j) (sym same) ∙ net_back p is in
      both_on _ _ (eq-eqb (step_of j k) p.step step) (eq-eqb (net_of j k) p.net net)
      ∙ sym (eq-eqb (number_of j p) k same)))
      (λ (other : number_of j p ≡ k → ⊥). ⊎_elim
      (λ (h : is_same_place (place_at j k) p ≡ true).
      (let parts = and_parts (step_of j k == p.step) (net_of j k == p.net) h in
      absurd (other (ap (λ (s : ℕ). s * j.width + position_of j.order p.net)
      (sym (eqb-true (step_of j k) p.step parts.0))
      ∙ ap (λ n. step_of j k * j.width + position_of j.order n) (sym (eqb-true (net_of j k) p.net parts.1))
      ∙ number_of_place_at j k ordering all within))))
      (λ (h : is_same_place (place_at j k) p ≡ false). h ∙ sym (ne_eqb (number_of j p) k other))
      (cases_Bool (is_same_place (place_at j k) p))) (cases_eq (number_of j p) k)
    where
      both_on : (a b : Bool) → a ≡ true → b ≡ true → a && b ≡ true
      both_on a b first second = rw (first, second) refl

  listed_all : (k : ℕ) → k < places_of j → (filling : List Place) → AllByRecursion (IsPlace j) filling
      → is_listed filling (place_at j k) ≡ bit_of j filling k
  listed_all k within [] are = refl
  listed_all k within (p ∷ ps) are = rw (same_number k within p are.0, listed_all k within ps are.1) refl

  pub listed_bit : (k : ℕ) → k < places_of j → (filling : List Place) → IsFilling j filling
      → is_listed filling (place_at j k) ≡ bit_of j filling k
  listed_bit k within filling is = listed_all k within filling is.places
