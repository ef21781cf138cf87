-- Orders and loops exclude one another, and the loop that is told is one.
use Rattle.std.proofs.Common.{◌≡◌, ℕ, zero, suc, ◌+◌, ◌-◌, ◌<◌, Some, List, length, take, drop, slice_index, sym, ap, ◌∙◌, arith, inl, inr, subst, length-drop, add-one}
use Rattle.std.specs.List.{Contains, AllByRecursion}
use Rattle.std.proofs.lemmas.Bool.{cases_lt}
use Rattle.std.proofs.lemmas.List.{get_or-take, get_or-drop, length-take-le}
use Rattle.design_circuit.specs.Order.{arguments_of_driver, IsOrder}
use Rattle.design_circuit.specs.declared.design.Driver.{Driver}
use Rattle.design_order.specs.Loop.{IsLoop, IsToldLoop, first_unlisted}
use Rattle.design_order.proofs.Finds.{all_to, find_some, contains_at, index_of}

-- by induction on its position, no net of an order stands in a loop
not_in : (driver : ℕ → Driver) (width : ℕ) (nets loop : List ℕ) → IsOrder driver width nets → IsLoop driver width loop → (n p : ℕ) → p < n → p < length nets → Contains loop (slice_index nets p) → ⊥
not_in driver width nets loop order is zero p h within c = omega arith
not_in driver width nets loop order is (suc n) p h within c =
    let at = index_of loop (slice_index nets p) c in
    let argument = is.closed at.0 at.1 in
    let own = subst (λ net. Contains (arguments_of_driver (driver net)) argument.0) at.2 argument.1 in
    let listed = all_to (Contains (take p nets)) (arguments_of_driver (driver (slice_index nets p))) argument.0 (order.next p within).ready own in
    let earlier = index_of (take p nets) argument.0 listed in
    let long : length (take p nets) ≡ p = length-take-le p nets (omega arith) in
    let before : earlier.0 < p = omega (arith, long, earlier.1) in
    let there = sym (sym (get_or-take p nets earlier.0 0 before) ∙ earlier.2) in
    not_in driver width nets loop order is n earlier.0 (omega arith) (omega arith) (subst (λ net. Contains loop net) there argument.2)

pub no_loop : (driver : ℕ → Driver) (width : ℕ) (nets : List ℕ) → IsOrder driver width nets → ((net : ℕ) → net < width → Contains nets net) → (loop : List ℕ) → IsLoop driver width loop → ⊥
no_loop driver width nets order every loop is =
    let first = index_of nets (slice_index loop 0) (every (slice_index loop 0) (is.within 0 is.some)) in
    not_in driver width nets loop order is (first.0 + 1) first.0 (omega arith) first.1 (subst (λ net. Contains loop net) (sym first.2) (contains_at loop 0 is.some))

-- each net of the walk is one of the design
in_range : (driver : ℕ → Driver) (width : ℕ) (nets : List ℕ) → IsToldLoop driver width nets → ((net : ℕ) → net < width → AllByRecursion (λ a. a < width) (arguments_of_driver (driver net))) → (t : IsToldLoop driver width nets) → (p : ℕ) → p < length t.walk → slice_index t.walk p < width
in_range driver width nets is bound t zero lt = t.walked.start.within
in_range driver width nets is bound t (suc p) lt =
    let before = in_range driver width nets is bound t p (omega arith) in
    let step : first_unlisted driver t.listed (slice_index t.walk p) ≡ Some (slice_index t.walk (suc p)) = rw (← add-one) (t.walked.step p (omega arith)) in
    let found = find_some _ (arguments_of_driver (driver (slice_index t.walk p))) (slice_index t.walk (suc p)) step in
    all_to (λ a. a < width) (arguments_of_driver (driver (slice_index t.walk p))) (slice_index t.walk (suc p)) (bound (slice_index t.walk p) before) found.0

pub told_is_loop : (driver : ℕ → Driver) (width : ℕ) (nets : List ℕ) → ((net : ℕ) → net < width → AllByRecursion (λ a. a < width) (arguments_of_driver (driver net))) → IsToldLoop driver width nets → IsLoop driver width nets
told_is_loop driver width nets bound t =
    let walk = t.walk in
    let from = t.from in
    let long : length (drop t.from t.walk) ≡ length t.walk - t.from = length-drop t.from t.walk in
    let at : (q : ℕ) → slice_index (drop t.from t.walk) q ≡ slice_index t.walk (t.from + q) = λ q. get_or-drop t.from t.walk q 0 in
    subst (λ ns. IsLoop driver width ns) (sym t.nets_) (record {
      some = omega (arith, long, t.inside);
      within = λ q lt. subst (λ n. n < width) (sym (at q)) (in_range driver width nets t bound t (from + q) (omega (arith, long)));
      closed = λ q lt. elim (cases_lt (from + q + 1) (length walk)) as (λ _. (argument : ℕ) × Contains (arguments_of_driver (driver (slice_index (drop t.from t.walk) q))) argument × Contains (drop t.from t.walk) argument) [
        | inl more ↦ (
            let found = find_some _ (arguments_of_driver (driver (slice_index walk (from + q)))) (slice_index walk (from + q + 1)) (t.walked.step (from + q) more) in
            let same : from + (q + 1) ≡ from + q + 1 = omega arith in
            let next = at (q + 1) ∙ ap (slice_index walk) same in
            (slice_index walk (from + q + 1), subst (λ net. Contains (arguments_of_driver (driver net)) (slice_index walk (from + q + 1))) (sym (at q)) found.0, subst (λ net. Contains (drop from walk) net) next (contains_at (drop from walk) (q + 1) (omega (arith, long)))))
        | inr last ↦ (
            let end : from + q ≡ length walk - 1 = omega (arith, long) in
            let found = find_some _ (arguments_of_driver (driver (slice_index walk (length walk - 1)))) (slice_index walk from) t.again in
            let first : from + 0 ≡ from = omega arith in
            let here = at 0 ∙ ap (slice_index walk) first in
            (slice_index walk from, subst (λ net. Contains (arguments_of_driver (driver net)) (slice_index walk from)) (ap (slice_index walk) (sym end) ∙ sym (at q)) found.0, subst (λ net. Contains (drop from walk) net) here (contains_at (drop from walk) 0 (omega (arith, long)))))
      ];
    })
