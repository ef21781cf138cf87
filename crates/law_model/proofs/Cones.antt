-- Laws of the cones.
use Rattle.std.proofs.Common.{◌≡◌, ℕ, zero, suc, ◌<◌, ◌≤◌, ◌==◌, ◌||◌, Bool, true, false, List, [], ◌∷◌, ◌++◌, length, refl, sym, ap, ◌∙◌, arith, add-one, length-append, slice_index_or, subst, ⊎_elim}
use Rattle.std.specs.List.{AllByRecursion, list_any}
use Rattle.std.proofs.Math.ListN.{get_or-append}
use Rattle.std.proofs.Math.Seq.{get_or-append_seam}
use Rattle.std.proofs.lemmas.Bool.{or_cases, eqb-true, eq-eqb}
use Rattle.design_cell.specs.declared.value.Value.{Value}
use Rattle.design_circuit.specs.Job.{Job, places_of}
use Rattle.design_circuit.specs.Fits.{Fits}
use Rattle.design_circuit.proofs.Prefix.{prefix}
use Rattle.law_model.specs.Places.{among}
use Rattle.law_model.specs.Class.{class_of}
use Rattle.law_model.specs.Cone.{essentials, is_essential, supports_by, supports, cone_by, cone_at, cones, in_cone, Reaches, itself, further}
use Rattle.law_model.specs.declared.class.ClassByNumber.{ClassByNumber}
use Rattle.law_model.specs.declared.class.ClassByNumber.TheVariants.{Local, Free, Carried, Line}
use Rattle.law_model.proofs.PlacesWhere.{or_left, or_right, any_in, in_any, any_same, picked_below, all_among}
use Rattle.law_model.proofs.Roots.{carried_below}

pub essentials_below : (j : Job) (c : ℕ → Value) (place : ℕ) → AllByRecursion (λ k. k < place) (essentials j c place)
unfolding essentials
essentials_below j c place = picked_below (is_essential j c place) place

supports_by_below : (j : Job) → Fits j → (c : ℕ → Value) (place : ℕ) (class : ClassByNumber) → place < places_of j
    → class_of j c place ≡ class → AllByRecursion (λ k. k < place) (supports_by (essentials j c place) class)
supports_by_below j fits c place (Local bit) within is = essentials_below j c place
supports_by_below j fits c place Free within is = essentials_below j c place
supports_by_below j fits c place (Carried from inverted) within is =
    (carried_below j fits c place from inverted within is, tt)
supports_by_below j fits c place Line within is = essentials_below j c place

-- Supports stand before their place.
pub supports_below : (j : Job) → Fits j → (c : ℕ → Value) (place : ℕ) → place < places_of j
    → AllByRecursion (λ k. k < place) (supports j c place)
supports_below j fits c place within = supports_by_below j fits c place (class_of j c place) within refl

abbrev none : ℕ → Bool
none k = false

cones_length : (j : Job) (c : ℕ → Value) (n : ℕ) → length (cones j c n) ≡ n
unfolding cones
cones_length j c zero = refl
cones_length j c (suc n) = let ih = cones_length j c n in simp length-append (omega arith)

kept : (j : Job) (c : ℕ → Value) (n i : ℕ) → i < n
    → slice_index_or (cones j c (suc n)) i none ≡ slice_index_or (cones j c n) i none
unfolding cones
kept j c n i within = let len = cones_length j c n in get_or-append (cones j c n) _ none i (omega (arith, len))

cones_prefix : (j : Job) (c : ℕ → Value) (n i : ℕ) → i < n → cone_at (cones j c n) i ≡ in_cone j c i
cones_prefix j c n i within = prefix (cones j c) none (kept j c) n i within

cone_rule : (j : Job) (c : ℕ → Value) (root : ℕ)
    → in_cone j c root ≡ cone_by (cone_at (cones j c root)) root (supports j c root)
unfolding cones
cone_rule j c root =
    let earlier = cones j c root in
    let here = cone_by (cone_at earlier) root (supports j c root) in
    let long : length earlier ≡ root = cones_length j c root in
    let seam : slice_index_or (earlier ++ here ∷ []) root none ≡ here =
    subst (λ n. slice_index_or (earlier ++ here ∷ []) n none ≡ here) long
    (get_or-append_seam earlier here [] none) in
    ap (λ n. slice_index_or (cones j c n) root none) (add-one root) ∙ seam

along : (P Q : ℕ → Type 0) (xs : List ℕ) → ((k : ℕ) → P k → Q k) → AllByRecursion P xs → AllByRecursion Q xs
along P Q [] more all = tt
along P Q (x ∷ xs) more all = (more x all.0, along P Q xs more all.1)

-- The cone of a place is the place and the cones of its supports.
pub cone_is : (j : Job) → Fits j → (c : ℕ → Value) (root k : ℕ) → root < places_of j
    → in_cone j c root k ≡ (root == k) || list_any (λ support. in_cone j c support k) (supports j c root)
cone_is j fits c root k within =
    ap (λ cone. cone k) (cone_rule j c root) ∙ ap (λ rest. (root == k) || rest)
    (any_same (λ support. cone_at (cones j c root) support k) (λ support. in_cone j c support k) (supports j c root)
    (along _ _ (supports j c root) (λ s less. ap (λ cone. cone k) (cones_prefix j c root s less))
    (supports_below j fits c root within)))

pub cone_self : (j : Job) → Fits j → (c : ℕ → Value) (root : ℕ) → root < places_of j → in_cone j c root root ≡ true
cone_self j fits c root within = cone_is j fits c root root within ∙ or_left (root == root) _ (eq-eqb root root refl)

-- What is in the cone of a support is in the cone of the place.
cone_of_support : (j : Job) → Fits j → (c : ℕ → Value) (root support k : ℕ) → root < places_of j
    → among (supports j c root) support ≡ true → in_cone j c support k ≡ true → in_cone j c root k ≡ true
cone_of_support j fits c root support k within at inside =
    cone_is j fits c root k within ∙ or_right (root == k) _
    (any_in (λ s. in_cone j c s k) (supports j c root) support at inside)

-- A place of a cone is the root, or in the cone of one of its supports.
in_support : (j : Job) → Fits j → (c : ℕ → Value) (root k : ℕ) → root < places_of j → in_cone j c root k ≡ true
    → (P : Type 0) → (root ≡ k → P) → ((support : ℕ) → among (supports j c root) support ≡ true → support < root
    → in_cone j c support k ≡ true → P) → P
in_support j fits c root k within inside P here there =
    ⊎_elim (λ (e : (root == k) ≡ true). here (eqb-true root k e))
    (λ (e : list_any (λ s. in_cone j c s k) (supports j c root) ≡ true).
    (let at = in_any (λ s. in_cone j c s k) (supports j c root) e in there at.0 at.1
    (all_among (λ s. s < root) (supports j c root) at.0 (supports_below j fits c root within) at.1) at.2))
    (or_cases (root == k) (list_any (λ s. in_cone j c s k) (supports j c root))
    (sym (cone_is j fits c root k within) ∙ inside))

within_below : (j : Job) → Fits j → (c : ℕ → Value) (n root k : ℕ) → root < n → root < places_of j
    → in_cone j c root k ≡ true → k ≤ root
within_below j fits c zero root k below within inside = absurd (omega arith)
within_below j fits c (suc n) root k below within inside =
    in_support j fits c root k within inside (k ≤ root) (λ same. omega (arith, same))
    (λ s at less deeper. (let low = within_below j fits c n s k (omega arith) (omega arith)
    deeper in omega (arith, low, less)))

-- No place of a cone stands behind its root.
pub cone_within : (j : Job) → Fits j → (c : ℕ → Value) (root k : ℕ) → root < places_of j → in_cone j c root k ≡ true
    → k ≤ root
cone_within j fits c root k within inside = within_below j fits c (suc root) root k (omega arith) within inside

closed_below : (j : Job) → Fits j → (c : ℕ → Value) (n root k support : ℕ) → root < n → root < places_of j
    → in_cone j c root k ≡ true → among (supports j c k) support ≡ true → in_cone j c root support ≡ true
closed_below j fits c zero root k support below within inside at = absurd (omega arith)
closed_below j fits c (suc n) root k support below within inside at =
    in_support j fits c root k within inside (in_cone j c root support ≡ true)
    (λ same. (let at_root : among (supports j c root) support ≡ true =
    subst (λ i. among (supports j c i) support ≡ true) (sym same) at in
    let less : support < root = all_among (λ s. s < root) (supports j c root) support
    (supports_below j fits c root within) at_root in
    cone_of_support j fits c root support support within at_root
    (cone_self j fits c support (omega (arith, less, within)))))
    (λ s at_s less deeper. cone_of_support j fits c root s support within at_s
    (closed_below j fits c n s k support (omega arith) (omega arith) deeper at))

-- A cone has the supports of each of its places.
pub cone_closed : (j : Job) → Fits j → (c : ℕ → Value) (root k support : ℕ) → root < places_of j
    → in_cone j c root k ≡ true → among (supports j c k) support ≡ true → in_cone j c root support ≡ true
cone_closed j fits c root k support within inside at = closed_below j fits c (suc root) root k support (omega arith)
    within inside at

longer : (j : Job) (c : ℕ → Value) (root support k : ℕ) → among (supports j c root) support ≡ true
    → Reaches j c support k → Reaches j c root k
longer j c root support _ at itself = further root support itself at
longer j c root support _ at (further place next reaches on) = further place next
    (longer j c root support place at reaches) on

reaches_below : (j : Job) → Fits j → (c : ℕ → Value) (n root k : ℕ) → root < n → root < places_of j
    → in_cone j c root k ≡ true → Reaches j c root k
reaches_below j fits c zero root k below within inside = absurd (omega arith)
reaches_below j fits c (suc n) root k below within inside =
    in_support j fits c root k within inside (Reaches j c root k) (λ same. subst (Reaches j c root) same itself)
    (λ s at less deeper. longer j c root s k at (reaches_below j fits c n s k (omega arith) (omega arith) deeper))

-- A cone is what supports reach from its root.
pub cone_reaches : (j : Job) → Fits j → (c : ℕ → Value) (root k : ℕ) → root < places_of j → in_cone j c root k ≡ true
    → Reaches j c root k
cone_reaches j fits c root k within inside = reaches_below j fits c (suc root) root k (omega arith) within inside

pub reaches_cone : (j : Job) → Fits j → (c : ℕ → Value) (root k : ℕ) → root < places_of j → Reaches j c root k
    → in_cone j c root k ≡ true
reaches_cone j fits c root _ within itself = cone_self j fits c root within
reaches_cone j fits c root _ within (further place support reaches at) = cone_closed j fits c root place support within
    (reaches_cone j fits c root place within reaches) at
