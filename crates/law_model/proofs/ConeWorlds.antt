-- The law of cones, first half: worlds at the places of a cone are its consistent valuations.
use Rattle.std.proofs.Common.{◌≡◌, ℕ, zero, suc, ◌<◌, ◌≤◌, ◌&&◌, not, Bool, true, false, List, [], refl, sym, ap, ◌∙◌, arith, subst, ⊎_elim}
use Rattle.std.proofs.lemmas.Bool.{cases_Bool, and_parts}
use Rattle.design_cell.specs.declared.value.Value.{Value}
use Rattle.design_cell.specs.declared.value.Value.TheVariants.{Zero, One, X, Z}
use Rattle.design_cell.specs.Value.{IsKnown}
use Rattle.design_circuit.specs.Job.{Job, places_of}
use Rattle.design_circuit.specs.Fits.{Fits}
use Rattle.design_circuit.specs.Rule.{rule}
use Rattle.design_circuit.specs.World.{decided}
use Rattle.design_circuit.proofs.Rules.{AgreeOn}
use Rattle.law_model.specs.Places.{among}
use Rattle.law_model.specs.Class.{class_of, flipped, is_never_unknown}
use Rattle.law_model.specs.Cone.{essentials, supports_by, supports, in_cone, is_carried, reads_filling, is_source, table, IsConsistent}
use Rattle.law_model.specs.declared.class.ClassByNumber.{ClassByNumber}
use Rattle.law_model.specs.declared.class.ClassByNumber.TheVariants.{Local, Free, Carried, Line}
use Rattle.law_model.proofs.BornPlaces.{never_known}
use Rattle.law_model.proofs.CarryLaw.{TrueWorld, carry, decided_bit}
use Rattle.law_model.proofs.Cones.{cone_within, cone_closed, supports_below}
use Rattle.law_model.proofs.EssentialArguments.{table_reads, world_table}
use Rattle.law_model.proofs.PlacesWhere.{among_itself, among_all, all_among}

pub world_up : (j : Job) (c : ℕ → Value) (f w : ℕ → Bool) (k place : ℕ) → k ≤ place → TrueWorld j c f w place
    → TrueWorld j c f w k
world_up j c f w k place up seen = (let within = seen.within in record {
  within = omega (arith, within, up);
  world = λ i low. seen.world i (omega arith);
  exact = λ i bit low. seen.exact i bit (omega arith);
})

-- At the places of a cone every world is a consistent valuation.
pub world_consistent : (j : Job) → Fits j → (c : ℕ → Value) (f w : ℕ → Bool) (root : ℕ) → TrueWorld j c f w root
    → IsConsistent j c root w
world_consistent j fits c f w root seen = record {
  carried = λ place from inverted inside is. carry j fits c f w place from inverted (at place inside) is;
  ruled = λ place bit inside free is. seen.world place (low place inside)
      ∙ ap (λ v. decided v (f place)) (world_table j fits c f w place (at place inside) ∙ is)
      ∙ decided_bit bit (f place);
}
  where
    low : (place : ℕ) → in_cone j c root place ≡ true → place ≤ root
    low place inside = cone_within j fits c root place seen.within inside

    at : (place : ℕ) → in_cone j c root place ≡ true → TrueWorld j c f w place
    at place inside = world_up j c f w place root (low place inside) seen

pub free_supports : (essentials : List ℕ) (class : ClassByNumber) → is_carried class ≡ false
    → supports_by essentials class ≡ essentials
free_supports essentials (Local bit) free = refl
free_supports essentials Free free = refl
free_supports essentials (Carried from inverted) free = cc
free_supports essentials Line free = refl

-- A filling gives a source its bit in a valuation wherever the rule leaves it open there.
abbrev Supplies : Job → (ℕ → Value) → ℕ → (ℕ → Bool) → (ℕ → Bool) → Type 0
Supplies j c root f v = (k : ℕ) → is_source j c root k ≡ true → (IsKnown (table j c k v) → ⊥) → f k ≡ v k

source_at : (inside carried never : Bool) → inside ≡ true → carried ≡ false → never ≡ false
    → inside && (not carried && not never) ≡ true
source_at inside carried never i c n = rw (i, c, n) refl

-- A place that isn't carried, where the bits before are those of the valuation.
ruled_one : (j : Job) (c : ℕ → Value) (root : ℕ) (f v : ℕ → Bool) (k : ℕ) (value : Value) → IsConsistent j c root v
    → in_cone j c root k ≡ true → is_carried (class_of j c k) ≡ false → table j c k v ≡ value
    → ((IsKnown value → ⊥) → f k ≡ v k) → decided value (f k) ≡ v k
ruled_one j c root f v k Zero consistent inside free is source = sym (consistent.ruled k false inside free is)
ruled_one j c root f v k One consistent inside free is source = sym (consistent.ruled k true inside free is)
ruled_one j c root f v k X consistent inside free is source = source (λ h. h)
ruled_one j c root f v k Z consistent inside free is source = source (λ h. h)

at_class : (j : Job) → Fits j → (c : ℕ → Value) (root : ℕ) (f w v : ℕ → Bool) (k : ℕ) (class : ClassByNumber)
    → TrueWorld j c f w root → IsConsistent j c root v → Supplies j c root f v → in_cone j c root k ≡ true
    → class_of j c k ≡ class → ((i : ℕ) → among (supports j c k) i ≡ true → w i ≡ v i)
    → (is_carried class ≡ false → w k ≡ v k) → w k ≡ v k
at_class j fits c root f w v k (Carried from inverted) seen consistent same inside is before free =
    let one : among (supports j c k) from ≡ true =
    subst (λ class. among (supports_by (essentials j c k) class) from ≡ true) (sym is) (among_itself from []) in
    carry j fits c f w k from inverted (world_up j c f w k root (cone_within j fits c root k seen.within inside) seen)
    is ∙ ap (flipped inverted) (before from one) ∙ sym (consistent.carried k from inverted inside is)
at_class j fits c root f w v k (Local bit) seen consistent same inside is before free = free refl
at_class j fits c root f w v k Free seen consistent same inside is before free = free refl
at_class j fits c root f w v k Line seen consistent same inside is before free = free refl

one_place : (j : Job) → Fits j → (c : ℕ → Value) (root : ℕ) (f w v : ℕ → Bool) (k : ℕ) → TrueWorld j c f w root
    → IsConsistent j c root v → Supplies j c root f v → in_cone j c root k ≡ true
    → ((i : ℕ) → among (supports j c k) i ≡ true → w i ≡ v i) → w k ≡ v k
one_place j fits c root f w v k seen consistent same inside before =
    at_class j fits c root f w v k (class_of j c k) seen consistent same inside refl before free
  where
    low : k ≤ root
    low = cone_within j fits c root k seen.within inside

    here : TrueWorld j c f w k
    here = world_up j c f w k root low seen

    not_never : (IsKnown (rule j c w k) → ⊥) → is_never_unknown j c k ≡ false
    not_never unknown = ⊎_elim (λ (never : is_never_unknown j c k ≡ true).
        absurd (unknown (never_known j fits c f w k here never))) (λ (never : is_never_unknown j c k ≡ false). never)
        (cases_Bool (is_never_unknown j c k))

    free : is_carried (class_of j c k) ≡ false → w k ≡ v k
    free h =
        let supports_are : supports j c k ≡ essentials j c k = free_supports (essentials j c k) (class_of j c k) h in
        let agree : AgreeOn w v (essentials j c k) = among_all (λ i. w i ≡ v i) (essentials j c k)
        (λ i at. before i (subst (λ xs. among xs i ≡ true) (sym supports_are) at)) in
        let rules : rule j c w k ≡ table j c k v = world_table j fits c f w k here ∙ table_reads j c k w v agree in
        seen.world k low ∙ ap (λ value. decided value (f k)) rules
        ∙ ruled_one j c root f v k (table j c k v) consistent inside h refl
        (λ unknown. same k (source_at (in_cone j c root k) (is_carried (class_of j c k)) (is_never_unknown j c k)
        inside h (not_never (λ known. unknown (subst IsKnown rules known)))) unknown)

below : (j : Job) → Fits j → (c : ℕ → Value) (root : ℕ) (f w v : ℕ → Bool) (n k : ℕ) → k < n → TrueWorld j c f w root
    → IsConsistent j c root v → Supplies j c root f v → in_cone j c root k ≡ true → w k ≡ v k
below j fits c root f w v zero k less seen consistent same inside = absurd (omega arith)
below j fits c root f w v (suc n) k less seen consistent same inside =
    let low = cone_within j fits c root k seen.within inside in
    let within : k < places_of j = (let w = seen.within in omega (arith, w, low)) in
    one_place j fits c root f w v k seen consistent same inside
    (λ i at. (let before : i < k = all_among (λ s. s < k) (supports j c k) i
    (supports_below j fits c k within) at in below j fits c root f w v n i (omega (arith, before, less)) seen
    consistent same (cone_closed j fits c root k i seen.within inside at)))

-- A consistent valuation is, at the places of the cone, the world of each filling that gives the sources their bits
-- in it.
pub consistent_world : (j : Job) → Fits j → (c : ℕ → Value) (root : ℕ) (f w v : ℕ → Bool) → TrueWorld j c f w root
    → IsConsistent j c root v → ((k : ℕ) → is_source j c root k ≡ true → f k ≡ v k) → (k : ℕ)
    → in_cone j c root k ≡ true → w k ≡ v k
consistent_world j fits c root f w v seen consistent same k inside = below j fits c root f w v (suc k) k (omega arith)
    seen consistent (λ i source open_. same i source) inside

decided_open : (value : Value) (bit : Bool) → (IsKnown value → ⊥) → decided value bit ≡ bit
decided_open Zero bit open_ = absurd (open_ tt)
decided_open One bit open_ = absurd (open_ tt)
decided_open X bit open_ = refl
decided_open Z bit open_ = refl

-- So worlds whose fillings agree at the sources agree at the places of the cone: the value at a place depends on the
-- filling's bits at the sources of its cone alone.
pub source_worlds : (j : Job) → Fits j → (c : ℕ → Value) (f g v w : ℕ → Bool) (root k : ℕ) → TrueWorld j c f v root
    → TrueWorld j c g w root → ((i : ℕ) → is_source j c root i ≡ true → f i ≡ g i) → in_cone j c root k ≡ true
    → v k ≡ w k
source_worlds j fits c f g v w root k seen_v seen_w same inside =
    below j fits c root f v w (suc k) k (omega arith) seen_v (world_consistent j fits c g w root seen_w)
    (λ i source open_. same i source ∙ sym (own i (and_parts (in_cone j c root i) (reads_filling j c i) source).0 open_))
    inside
  where
    own : (i : ℕ) → in_cone j c root i ≡ true → (IsKnown (table j c i w) → ⊥) → w i ≡ g i
    own i inside_i open_ =
        let low = cone_within j fits c root i seen_w.within inside_i in
        seen_w.world i low ∙ ap (λ value. decided value (g i))
        (world_table j fits c g w i (world_up j c g w i root low seen_w)) ∙ decided_open (table j c i w) (g i) open_
