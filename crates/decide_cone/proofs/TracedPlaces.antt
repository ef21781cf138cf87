-- Places that are taken from the greatest down, and those that wait.
use Rattle.std.proofs.Common.{◌≡◌, ℕ, ◌+◌, ◌<◌, ◌≤◌, ◌==◌, ◌||◌, Bool, true, false, List, [], ◌∷◌, ◌++◌, length, reverse, refl, sym, ap, ◌∙◌, subst, arith, ◌⊎◌, ⊎_elim, length-append}
use Rattle.std.proofs.lemmas.Bool.{eq-eqb, eqb-true, or_cases}
use Rattle.design_cell.specs.declared.value.Value.{Value}
use Rattle.design_circuit.specs.Fits.{Fits}
use Rattle.design_circuit.specs.Job.{Job, places_of}
use Rattle.law_model.specs.Cone.{Reaches, cone, further, in_cone, itself, supports}
use Rattle.law_model.specs.Places.{among}
use Rattle.law_model.proofs.Cones.{cone_closed, cone_reaches, cone_self, cone_within, supports_below}
use Rattle.law_model.proofs.PlacesWhere.{all_among, among_all, or_left, or_right}
use Rattle.decide_graph.specs.Reached.{AddsAll, IsFalling, TakesGreatest}
use Rattle.decide_graph.proofs.FallingPlaces.{falling_is, falls_push, in_push, push_new, push_old}

-- A place is found: it is taken or it waits.
abbrev is_found : List ℕ → List ℕ → ℕ → Bool
is_found taken waiting k = among taken k || among waiting k

-- Places that are taken from the root of a cone downwards, and those that wait: all is of the cone, the root is found and
-- so is each support of a taken place, and what waits stands below what is taken.
pub record IsDescent (j : Job) (c : ℕ → Value) (root : ℕ) (taken waiting : List ℕ) : Type 0 where
  pub begins : is_found taken waiting root ≡ true
  pub closed : (place support : ℕ) → among taken place ≡ true → among (supports j c place) support ≡ true
      → is_found taken waiting support ≡ true
  pub inside : (k : ℕ) → is_found taken waiting k ≡ true → in_cone j c root k ≡ true
  pub falls : IsFalling taken
  pub below : (place k : ℕ) → among taken place ≡ true → among waiting k ≡ true → k < place
  pub room : (k : ℕ) → among waiting k ≡ true → length taken + k ≤ root

-- The root alone waits.
pub descent_begins : (j : Job) → Fits j → (c : ℕ → Value) (root : ℕ) (waiting : List ℕ) → root < places_of j
    → ((k : ℕ) → among waiting k ≡ (root == k) || false) → IsDescent j c root [] waiting
descent_begins j fits c root waiting within are = record {
  begins = are root ∙ or_left (root == root) false (eq-eqb root root refl);
  closed = λ place support at reads. (let no : false ≡ true = at in cc);
  inside = λ k at. subst (λ i. in_cone j c root i ≡ true) (one k at) (cone_self j fits c root within);
  falls = tt;
  below = λ place k at waits. (let no : false ≡ true = at in cc);
  room = λ k waits. (let same = one k waits in omega (arith, same));
}
  where
    one : (k : ℕ) → among waiting k ≡ true → root ≡ k
    one k waits = ⊎_elim (λ (e : (root == k) ≡ true). eqb-true root k e) (λ (e : false ≡ true). cc)
        (or_cases (root == k) false (sym (are k) ∙ waits))

-- The greatest of those that wait is taken, and its supports come in.
pub descent_more : (j : Job) → Fits j → (c : ℕ → Value) (root place : ℕ) (taken waiting left more : List ℕ)
    → root < places_of j → IsDescent j c root taken waiting → TakesGreatest waiting place left
    → AddsAll left (supports j c place) more → IsDescent j c root (taken ++ place ∷ []) more
descent_more j fits c root place taken waiting left more within is takes adds = record {
  begins = still root is.begins;
  closed = closed;
  inside = inside;
  falls = falls_push taken place is.falls (among_all (λ p. place < p) taken (λ p at. is.below p place at waits));
  below = below;
  room = λ k at. (let deep = low k at in let up = is.room place waits in let long = length-append taken (place ∷ []) in
      omega (arith, deep, up, long));
}
  where
    waits : among waiting place ≡ true
    waits = takes.parts place ∙ or_left (place == place) (among left place) (eq-eqb place place refl)

    of_cone : in_cone j c root place ≡ true
    of_cone = is.inside place (or_right (among taken place) (among waiting place) waits)

    supports_low : (k : ℕ) → among (supports j c place) k ≡ true → k < place
    supports_low k at =
        let up = cone_within j fits c root place within of_cone in
        all_among (λ i. i < place) (supports j c place) k
        (supports_below j fits c place (omega (arith, up, within))) at

    parted : (k : ℕ) → among more k ≡ true → (among (supports j c place) k ≡ true) ⊎ (among left k ≡ true)
    parted k at = or_cases (among (supports j c place) k) (among left k) (sym (adds k) ∙ at)

    stays : (k : ℕ) → among left k ≡ true → among waiting k ≡ true
    stays k at = takes.parts k ∙ or_right (place == k) (among left k) at

    low : (k : ℕ) → among more k ≡ true → k < place
    low k at = ⊎_elim (λ (e : among (supports j c place) k ≡ true). supports_low k e)
        (λ (e : among left k ≡ true). all_among (λ i. i < place) left k takes.below e) (parted k at)

    still : (k : ℕ) → is_found taken waiting k ≡ true → is_found (taken ++ place ∷ []) more k ≡ true
    still k found = ⊎_elim
        (λ (e : among taken k ≡ true). or_left (among (taken ++ place ∷ []) k) (among more k) (push_old taken place k e))
        (λ (e : among waiting k ≡ true). ⊎_elim
        (λ (d : (place == k) ≡ true). or_left (among (taken ++ place ∷ []) k) (among more k)
        (subst (λ i. among (taken ++ place ∷ []) i ≡ true) (eqb-true place k d) (push_new taken place)))
        (λ (d : among left k ≡ true). or_right (among (taken ++ place ∷ []) k) (among more k)
        (adds k ∙ or_right (among (supports j c place) k) (among left k) d))
        (or_cases (place == k) (among left k) (sym (takes.parts k) ∙ e)))
        (or_cases (among taken k) (among waiting k) found)

    closed : (p support : ℕ) → among (taken ++ place ∷ []) p ≡ true → among (supports j c p) support ≡ true
        → is_found (taken ++ place ∷ []) more support ≡ true
    closed p support at reads = ⊎_elim
        (λ (e : among taken p ≡ true). still support (is.closed p support e reads))
        (λ (e : place ≡ p). or_right (among (taken ++ place ∷ []) support) (among more support)
        (adds support ∙ or_left (among (supports j c place) support) (among left support)
        (subst (λ i. among (supports j c i) support ≡ true) (sym e) reads)))
        (in_push taken place p at)

    inside : (k : ℕ) → is_found (taken ++ place ∷ []) more k ≡ true → in_cone j c root k ≡ true
    inside k found = ⊎_elim
        (λ (e : among (taken ++ place ∷ []) k ≡ true). ⊎_elim
        (λ (d : among taken k ≡ true). is.inside k (or_left (among taken k) (among waiting k) d))
        (λ (d : place ≡ k). subst (λ i. in_cone j c root i ≡ true) d of_cone) (in_push taken place k e))
        (λ (e : among more k ≡ true). ⊎_elim
        (λ (d : among (supports j c place) k ≡ true). cone_closed j fits c root place k within of_cone d)
        (λ (d : among left k ≡ true). is.inside k (or_right (among taken k) (among waiting k) (stays k d)))
        (parted k e))
        (or_cases (among (taken ++ place ∷ []) k) (among more k) found)

    below : (p k : ℕ) → among (taken ++ place ∷ []) p ≡ true → among more k ≡ true → k < p
    below p k at more_has = (let deep = low k more_has in ⊎_elim
        (λ (e : among taken p ≡ true). (let up = is.below p place e waits in omega (arith, deep, up)))
        (λ (e : place ≡ p). omega (arith, deep, e)) (in_push taken place p at))

-- The greatest of those that wait stands no higher than the root, and there is room for it.
pub descent_within : (j : Job) → Fits j → (c : ℕ → Value) (root place : ℕ) (taken waiting left : List ℕ)
    → root < places_of j → IsDescent j c root taken waiting → TakesGreatest waiting place left
    → (place ≤ root) × (length taken + place ≤ root)
descent_within j fits c root place taken waiting left within is takes =
    let waits : among waiting place ≡ true =
    takes.parts place ∙ or_left (place == place) (among left place) (eq-eqb place place refl) in (
      cone_within j fits c root place within (is.inside place (or_right (among taken place) (among waiting place) waits)),
      is.room place waits,
    )

-- Where none waits, the cone is taken.
pub descent_ends : (j : Job) → Fits j → (c : ℕ → Value) (root : ℕ) (taken waiting : List ℕ) → root < places_of j
    → IsDescent j c root taken waiting → waiting ≡ [] → reverse taken ≡ cone j c root
descent_ends j fits c root taken waiting within is none =
    falling_is (root + 1) (in_cone j c root) taken is.falls
    (among_all (λ k. k < root + 1) taken (λ k at. (let up = cone_within j fits c root k within (has k at) in
    omega (arith, up))))
    (λ k less. same (among taken k) (in_cone j c root k) (has k)
    (λ inside. reached k (cone_reaches j fits c root k within inside)))
  where
    has : (k : ℕ) → among taken k ≡ true → in_cone j c root k ≡ true
    has k at = is.inside k (or_left (among taken k) (among waiting k) at)

    is_taken : (k : ℕ) → is_found taken waiting k ≡ true → among taken k ≡ true
    is_taken k found = ⊎_elim (λ (e : among taken k ≡ true). e)
        (λ (e : among waiting k ≡ true). (let no : false ≡ true = sym (ap (λ xs. among xs k) none) ∙ e in cc))
        (or_cases (among taken k) (among waiting k) found)

    reached : (k : ℕ) → Reaches j c root k → among taken k ≡ true
    reached _ itself = is_taken root is.begins
    reached _ (further place support reaches at) = is_taken support (is.closed place support (reached place reaches) at)

    same : (a b : Bool) → (a ≡ true → b ≡ true) → (b ≡ true → a ≡ true) → a ≡ b
    same true b forth back = sym (forth refl)
    same false false forth back = refl
    same false true forth back = back refl
