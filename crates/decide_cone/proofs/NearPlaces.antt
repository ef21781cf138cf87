-- The places of a cone and of its boundary together.
use Rattle.std.proofs.Common.{◌≡◌, ℕ, ◌+◌, ◌<◌, ◌≤◌, ◌==◌, ◌||◌, Bool, true, false, List, [], ◌∷◌, ◌++◌, reverse, refl, sym, ap, ◌∙◌, arith, subst, ⊎_elim}
use Rattle.std.specs.List.{list_any}
use Rattle.std.proofs.lemmas.Bool.{and_parts, cases_Bool, or_cases}
use Rattle.std.proofs.lemmas.List.{reverse-append}
use Rattle.std.proofs.lemmas.List.Folds.{list_any-append}
use Rattle.design_circuit.specs.Waveform.{certain}
use Rattle.law_model.specs.Cone.{in_cone}
use Rattle.law_model.specs.Places.{among, places_where}
use Rattle.law_model.proofs.PlacesWhere.{among_all, in_picked, or_left, or_right, picked_in}
use Rattle.wave_proved.specs.Contents.{Contents, job}
use Rattle.decide_graph.specs.Reached.{AddsAll, AreTaken}
use Rattle.decide_graph.proofs.FallingPlaces.{falling_is}
use Rattle.decide_nodes.specs.declared.node.Node.{Node}
use Rattle.decide_nodes.specs.Traced.{IsWholeCone, cone_in}
use Rattle.decide_cone.specs.Boundary.{IsFallingBoundary, boundary_in, is_boundary, is_near, is_outside, near_in, reads}
use Rattle.decide_cone.proofs.BoundaryPlaces.{none_over, reader_below}

-- A test at a place is whether it is among those where the test holds.
picked_test : (test : ℕ → Bool) (n k : ℕ) → (test k ≡ true → k < n) → among (places_where test n) k ≡ test k
picked_test test n k low =
    ⊎_elim (λ (h : test k ≡ true). picked_in test n k (low h) h ∙ sym h)
    (λ (h : test k ≡ false).
    ⊎_elim (λ (at : among (places_where test n) k ≡ true).
    (let e : true ≡ false = sym (in_picked test n k at).1 ∙ h in cc))
    (λ (out : among (places_where test n) k ≡ false). out ∙ sym h) (cases_Bool (among (places_where test n) k)))
    (cases_Bool (test k))

or_turned : (a b : Bool) → a || b ≡ b || a
or_turned true true = refl
or_turned true false = refl
or_turned false true = refl
or_turned false false = refl

or_nothing : (b : Bool) → b || false ≡ b
or_nothing true = refl
or_nothing false = refl

among_reversed : (ks : List ℕ) (k : ℕ) → among (reverse ks) k ≡ among ks k
among_reversed [] k = refl
among_reversed (first ∷ ks) k =
    ap (λ xs. among xs k) (reverse-append (first ∷ []) ks)
    ∙ list_any-append (λ i. i == k) (reverse ks) (first ∷ [])
    ∙ or_turned (among (reverse ks) k) ((first == k) || false)
    ∙ ap (λ b. b || among (reverse ks) k) (or_nothing (first == k))
    ∙ ap (λ b. (first == k) || b) (among_reversed ks k)

module _ (c : Contents) (root : ℕ) (nodes : List Node) (is : IsWholeCone c root nodes) (inside beside : List ℕ)
    (none some all taken : List ℕ) (nothing : none ≡ []) (inside_is : inside ≡ cone_in c root)
    (beside_is : reverse beside ≡ boundary_in c root) (first : AddsAll none inside some) (more : AddsAll some beside all)
    (taken_are : AreTaken all taken) where
  boundary_low : (k : ℕ) → is_boundary (job c) (certain c.written) root k ≡ true → k < root
  boundary_low k h = reader_below c root k (cone_in c root)
      (among_all (λ p. p ≤ root) (cone_in c root) (none_over c root nodes is))
      (and_parts (is_outside (cone_in c root) k)
      (list_any (reads (job c) (certain c.written) k) (cone_in c root)) h).1

  beside_test : (k : ℕ) → among beside k ≡ is_boundary (job c) (certain c.written) root k
  beside_test k = sym (among_reversed beside k) ∙ ap (λ ks. among ks k) beside_is
      ∙ picked_test (is_boundary (job c) (certain c.written) root) root k (boundary_low k)

  members : (k : ℕ) → among taken k ≡ among (cone_in c root) k || is_boundary (job c) (certain c.written) root k
  members k = taken_are.same k ∙ more k ∙ ap (λ b. among beside k || b) (first k)
      ∙ ap (λ ks. among beside k || (among inside k || among ks k)) nothing
      ∙ ap (λ b. among beside k || b) (or_nothing (among inside k) ∙ ap (λ ks. among ks k) inside_is)
      ∙ ap (λ b. b || among (cone_in c root) k) (beside_test k)
      ∙ or_turned (is_boundary (job c) (certain c.written) root k) (among (cone_in c root) k)

  low : (k : ℕ) → among taken k ≡ true → k < root + 1
  low k at =
      ⊎_elim (λ (h : among (cone_in c root) k ≡ true).
      (in_picked (in_cone (job c) (certain c.written) root) (root + 1) k h).0)
      (λ (h : is_boundary (job c) (certain c.written) root k ≡ true).
      (let less = boundary_low k h in omega (arith, less)))
      (or_cases (among (cone_in c root) k) (is_boundary (job c) (certain c.written) root k) (sym (members k) ∙ at))

  pub near_is : reverse taken ≡ near_in c root
  near_is = falling_is (root + 1) (is_near (job c) (certain c.written) root) taken taken_are.falls
      (among_all (λ k. k < root + 1) taken low)
      (λ k less. members k ∙ ap (λ b. b || is_boundary (job c) (certain c.written) root k)
      (picked_test (in_cone (job c) (certain c.written) root) (root + 1) k (λ h. less)))
