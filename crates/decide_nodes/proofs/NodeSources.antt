-- Which nodes of a cone are its sources: those whose tables have x.
use Rattle.std.proofs.Common.{◌≡◌, ℕ, zero, suc, ◌+◌, ◌*◌, ◌/◌, ◌%◌, ◌^◌, ◌<◌, ◌==◌, ◌&&◌, not, cond, Bool, true, false, List, [], ◌∷◌, length, refl, sym, ap, ◌∙◌, subst, arith, add-one, slice_index_or, ⊎_elim}
use Rattle.std.specs.List.{AllByRecursion, list_any}
use Rattle.std.specs.List.Sorted.{IsStrictlyIncreasing}
use Rattle.std.proofs.Math.Nat.{pow-suc}
use Rattle.std.proofs.lemmas.Bool.{cases_Bool, eq-eqb, ne_eqb, or_parts}
use Rattle.std.proofs.lemmas.Nat.Bits.{bit_at_lowest, bit_at-suc}
use Rattle.std.specs.Int.{bit_at}
use Rattle.design_cell.specs.declared.value.Value.{Value}
use Rattle.design_cell.specs.declared.value.Value.TheVariants.{Zero, One, X, Z}
use Rattle.design_cell.specs.Value.{IsKnown, is_unknown}
use Rattle.design_circuit.proofs.Rules.{rule_reads}
use Rattle.design_circuit.specs.Fits.{Fits}
use Rattle.design_circuit.specs.Job.{Job, places_of}
use Rattle.design_circuit.specs.Rule.{arguments, rule}
use Rattle.law_model.specs.Assignment.{assigned}
use Rattle.law_model.specs.Class.{class_of, flipped, is_never_unknown}
use Rattle.law_model.specs.Cone.{essentials, reads_filling, is_carried, is_essential, table}
use Rattle.law_model.specs.Mask.{mask_of, masked}
use Rattle.law_model.proofs.AssignmentNumbers.{along, mask_small}
use Rattle.law_model.proofs.Assignments.{every_passes, passes_every}
use Rattle.law_model.proofs.ConeModels.{rises_far}
use Rattle.law_model.proofs.EssentialArguments.{rule_table, table_reads}
use Rattle.law_model.proofs.PlacesWhere.{among_all, picked_rises}
use Rattle.decide_nodes.specs.declared.node.NodeBody.{NodeBody as Body}
use Rattle.decide_nodes.specs.declared.node.NodeBody.TheVariants.{Carried, Rule}
use Rattle.decide_nodes.specs.Nodes.{StandsAt, body_of, is_source_body}
use Rattle.decide_nodes.specs.Traced.{IsBodyOver}

mask_same : (places : List ℕ) (f g : ℕ → Bool) → AllByRecursion (λ k. f k ≡ g k) places
    → mask_of places f ≡ mask_of places g
mask_same [] f g same = refl
mask_same (p ∷ ps) f g same = rw (same.0, mask_same ps f g same.1) refl

below_all : (x : ℕ) (xs : List ℕ) → ((k : ℕ) → k < length xs → x < slice_index_or xs k 0)
    → AllByRecursion (λ k. x < k) xs
below_all x [] each = tt
below_all x (y ∷ ys) each = (each 0 (omega arith), below_all x ys (λ k less. each (suc k) (omega arith)))

-- The first of a list that ascends is below the others, which ascend too.
pub first_below : (x : ℕ) (xs : List ℕ) → IsStrictlyIncreasing (x ∷ xs) → AllByRecursion (λ k. x < k) xs
first_below x xs rises = below_all x xs (λ k less. subst (λ i. x < slice_index_or (x ∷ xs) i 0) (add-one k)
    (rises_far (x ∷ xs) k rises (omega arith)))

pub others_rise : (x : ℕ) (xs : List ℕ) → IsStrictlyIncreasing (x ∷ xs) → IsStrictlyIncreasing xs
others_rise x xs rises k less =
    let same : suc k + 1 ≡ suc (k + 1) = omega arith in
    subst (λ i. slice_index_or (x ∷ xs) (suc k) 0 < slice_index_or (x ∷ xs) i 0) same (rises (suc k) (omega arith))

-- The bits of a number for some places: those of the first, and of the others.
masked_first : (x : ℕ) (xs : List ℕ) (n : ℕ) → masked (x ∷ xs) n x ≡ (n % 2 == 1)
masked_first x xs n = rw (eq-eqb x x refl) refl

masked_other : (x : ℕ) (xs : List ℕ) (n k : ℕ) → x < k → masked (x ∷ xs) n k ≡ masked xs (n / 2) k
masked_other x xs n k less = rw (ne_eqb k x (λ same. omega (arith, same, less))) refl

parity : (r q : ℕ) → r < 2 → cond (r == 1) 1 0 + 2 * q ≡ r + 2 * q
parity zero q small = refl
parity (suc zero) q small = refl
parity (suc (suc r)) q small = absurd (omega arith)

-- Each number is that of its own bits.
pub number_back : (places : List ℕ) (n : ℕ) → IsStrictlyIncreasing places → n < 2 ^ length places
    → mask_of places (masked places n) ≡ n
number_back [] n rises small = omega arith
number_back (x ∷ xs) n rises small =
    let double = pow-suc 2 (length xs) in
    let ih = number_back xs (n / 2) (others_rise x xs rises) (omega (arith, small, double)) in
    let others : mask_of xs (masked (x ∷ xs) n) ≡ mask_of xs (masked xs (n / 2)) = mask_same xs _ _
    (along _ _ xs (λ k less. masked_other x xs n k less) (first_below x xs rises)) in
    rw (masked_first x xs n, others, ih) (parity (n % 2) (n / 2) (omega arith) ∙ omega arith)

-- They are its bits by position.
pub masked_at : (places : List ℕ) (n i : ℕ) → IsStrictlyIncreasing places → i < length places
    → masked places n (slice_index_or places i 0) ≡ (bit_at n i == 1)
masked_at [] n i rises less = absurd (omega arith)
masked_at (x ∷ xs) n zero rises less =
    masked_first x xs n ∙ ap (λ bit. bit == 1) (sym (bit_at_lowest n))
masked_at (x ∷ xs) n (suc i) rises less =
    let far = rises_far (x ∷ xs) i rises (omega arith) in
    masked_other x xs n (slice_index_or xs i 0) (subst (λ k. x < slice_index_or (x ∷ xs) k 0) (add-one i) far)
    ∙ masked_at xs (n / 2) i (others_rise x xs rises) (omega arith)
    ∙ ap (λ bit. bit == 1) (sym (bit_at-suc n i))

pub any_none : {A : Type 0} (p : A → Bool) (d : A) (xs : List A) (i : ℕ) → list_any p xs ≡ false → i < length xs
    → p (slice_index_or xs i d) ≡ false
any_none p d [] i none less = absurd (omega arith)
any_none p d (x ∷ xs) zero none less = (or_parts (p x) (list_any p xs) none).0
any_none p d (x ∷ xs) (suc i) none less =
    any_none p d xs i (or_parts (p x) (list_any p xs) none).1 (omega arith)

none_any : {A : Type 0} (p : A → Bool) (d : A) (xs : List A)
    → ((i : ℕ) → i < length xs → p (slice_index_or xs i d) ≡ false) → list_any p xs ≡ false
none_any p d [] each = refl
none_any p d (x ∷ xs) each =
    let first : p x ≡ false = each 0 (omega arith) in
    rw first (none_any p d xs (λ i less. each (suc i) (omega arith)))

unknown_known : (v : Value) → is_unknown v ≡ false → IsKnown v
unknown_known Zero none = tt
unknown_known One none = tt
unknown_known X none = cc
unknown_known Z none = cc

-- A value of a table without x is known.
pub table_known : (arguments : List ℕ) (values : List Value) (bits : ℕ → Bool) → length values ≡ 2 ^ length arguments
    → list_any is_unknown values ≡ false → IsKnown (slice_index_or values (mask_of arguments bits) X)
table_known arguments values bits long none =
    let small = mask_small arguments bits in
    unknown_known (slice_index_or values (mask_of arguments bits) X)
    (any_none is_unknown X values (mask_of arguments bits) none (omega (arith, small, long)))

flip_false : (b : Bool) → not b ≡ true → b ≡ false
flip_false true h = cc
flip_false false h = refl

pub flipped_back : (turned bit : Bool) → flipped turned (flipped turned bit) ≡ bit
flipped_back false bit = refl
flipped_back true false = refl
flipped_back true true = refl

-- A table on bits that are turned twice.
pub turned_table : (j : Job) (c : ℕ → Value) (place : ℕ) (turns bits : ℕ → Bool)
    → table j c place (λ k. flipped (turns k) (flipped (turns k) (bits k))) ≡ table j c place bits
turned_table j c place turns bits =
    table_reads j c place (λ k. flipped (turns k) (flipped (turns k) (bits k))) bits
    (among_all (λ k. flipped (turns k) (flipped (turns k) (bits k)) ≡ bits k) (essentials j c place)
    (λ k at. flipped_back (turns k) (bits k)))

module _ (j : Job) (fits : Fits j) (c : ℕ → Value) (place : ℕ) (within : place < places_of j) (values : List Value)
    (turns : ℕ → Bool) (long : length values ≡ 2 ^ length (essentials j c place))
    (are : (bits : ℕ → Bool) → slice_index_or values (mask_of (essentials j c place) bits) X
    ≡ table j c place (λ k. flipped (turns k) (bits k)))
  where
    known_rule : (ℕ → Bool) → Bool
    known_rule bits = not (is_unknown (rule j c bits place))

    essentials_rise : IsStrictlyIncreasing (essentials j c place)
    unfolding essentials
    essentials_rise = picked_rises (is_essential j c place) place

    value_rule : (bits : ℕ → Bool) → slice_index_or values (mask_of (essentials j c place) bits) X
        ≡ rule j c (assigned c (λ k. flipped (turns k) (bits k))) place
    value_rule bits = are bits ∙ sym (rule_table j fits c place within (λ k. flipped (turns k) (bits k)))

    rule_value : (bits : ℕ → Bool)
        → slice_index_or values (mask_of (essentials j c place) (λ k. flipped (turns k) (bits k))) X
        ≡ rule j c (assigned c bits) place
    rule_value bits = are (λ k. flipped (turns k) (bits k)) ∙ turned_table j c place turns bits
        ∙ sym (rule_table j fits c place within bits)

    never_none : is_never_unknown j c place ≡ true → list_any is_unknown values ≡ false
    unfolding known_rule
    never_none never = none_any is_unknown X values (λ i less.
        (let all = essentials j c place in
        let bits : ℕ → Bool = masked all i in
        let same : slice_index_or values i X ≡ rule j c (assigned c (λ k. flipped (turns k) (bits k))) place =
        ap (λ k. slice_index_or values k X) (sym (number_back all i essentials_rise (omega (arith, less, long))))
        ∙ value_rule bits in
        let passes : known_rule (assigned c (λ k. flipped (turns k) (bits k))) ≡ true = every_passes j c place known_rule
        (λ f g agree. ap (λ v. not (is_unknown v)) (rule_reads j c f g place agree)) never
        (λ k. flipped (turns k) (bits k)) in
        ap is_unknown same ∙ flip_false _ passes))

    none_never : list_any is_unknown values ≡ false → is_never_unknown j c place ≡ true
    unfolding known_rule
    none_never none = passes_every j c place known_rule (λ bits.
        (let all = essentials j c place in
        let own : ℕ → Bool = λ k. flipped (turns k) (bits k) in
        let small = mask_small all own in
        let known : is_unknown (slice_index_or values (mask_of all own) X) ≡ false =
        any_none is_unknown X values (mask_of all own) none (omega (arith, small, long)) in
        ap (λ v. not (is_unknown v)) (sym (rule_value bits)) ∙ ap not known))

    -- The table has x exactly where the rule gives it for some assignment.
    pub values_born : list_any is_unknown values ≡ not (is_never_unknown j c place)
    values_born =
        ⊎_elim (λ (never : is_never_unknown j c place ≡ true). never_none never ∙ sym (ap not never))
        (λ (other : is_never_unknown j c place ≡ false). ⊎_elim
        (λ (some : list_any is_unknown values ≡ true). some ∙ sym (ap not other))
        (λ (none : list_any is_unknown values ≡ false).
        (let both : true ≡ false = sym (none_never none) ∙ other in cc))
        (cases_Bool (list_any is_unknown values))) (cases_Bool (is_never_unknown j c place))

born_off : (carried never : Bool) → carried ≡ true → not carried && not never ≡ false
born_off carried never is = rw is refl

born_on : (carried never : Bool) → carried ≡ false → not carried && not never ≡ not never
born_on carried never is = rw is refl

-- A node's body is that of a source exactly where its place is one.
pub body_born : (j : Job) → Fits j → (c : ℕ → Value) (places : List ℕ) (place position : ℕ) (body : Body)
    → place < places_of j → StandsAt position body → IsBodyOver j c places place (body_of body)
    → is_source_body body ≡ reads_filling j c place
body_born j fits c places place position (Carried node inverted) within stands is =
    sym (born_off (is_carried (class_of j c place)) (is_never_unknown j c place) (ap is_carried is.class))
body_born j fits c places place position (Rule arguments values) within stands is =
    values_born j fits c place within values is.turns (stands.long ∙ ap (λ n. 2 ^ n) is.long) is.are_values
    ∙ sym (born_on (is_carried (class_of j c place)) (is_never_unknown j c place) is.free)
