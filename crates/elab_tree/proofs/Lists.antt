-- Lists of names, and the bits of a range.
use Rattle.std.proofs.Common.{◌≡◌, ℕ, zero, suc, ◌+◌, ◌-◌, ◌<◌, ◌≤◌, ◌^◌, ltb, Bool, true, false, List, [], ◌∷◌, ◌++◌, length, refl, sym, ◌∙◌, ap, subst, arith, get_or, slice_set, length-append, add-one, Some, None, if◌then◌else◌, nat_le, ltb-true, ltb-false, leb-true, leb-false}
use Rattle.std.specs.List.{All, AllByRecursion}
use Rattle.std.proofs.lemmas.List.{get_or_append_left, get_or-append_right, get_or_at}
use Rattle.netlist_grammar.specs.Trees.{Range}
use Rattle.netlist_grammar.specs.Whole.{IsRange}
use Rattle.design_circuit.specs.Design.{FitsIndex, spelling_of, no_name}
use Rattle.design_circuit.specs.declared.name.Name.{Name}
use Rattle.elab_nets.specs.Ranges.{upto, width_of, bit_at}
use Rattle.elab_tree.specs.Sound.{name_at, Grows}

-- ---- elements

pub all_append : {A : Type 0} (P : A → Type 0) (xs ys : List A) → AllByRecursion P xs → AllByRecursion P ys → AllByRecursion P (xs ++ ys)
all_append P [] ys h g = g
all_append P (x ∷ xs) ys h g = (h.0, all_append P xs ys h.1 g)

pub all_upto : {A : Type 0} (P : A → Type 0) (f : ℕ → A) (n : ℕ) → ((k : ℕ) → k < n → P (f k)) → AllByRecursion P (upto f n)
all_upto P f zero h = tt
all_upto P f (suc n) h = all_append P (upto f n) (f n ∷ []) (all_upto P f n (λ k less. h k (omega arith))) (h n (omega arith), tt)

pub all_set : {A : Type 0} (P : A → Type 0) (xs : List A) (k : ℕ) (x : A) → AllByRecursion P xs → P x → AllByRecursion P (slice_set xs k x)
all_set P [] k x h g = tt
all_set P (y ∷ ys) zero x h g = (g, h.1)
all_set P (y ∷ ys) (suc k) x h g = (h.0, all_set P ys k x h.1 g)

-- What holds of each holds of what follows from it.
pub all_more : {A : Type 0} (P Q : A → Type 0) → ((x : A) → P x → Q x) → (xs : List A) → AllByRecursion P xs → AllByRecursion Q xs
all_more P Q more [] h = tt
all_more P Q more (x ∷ xs) h = (more x h.0, all_more P Q more xs h.1)

pub all_at : {A : Type 0} (P : A → Type 0) (xs : List A) (k : ℕ) (d : A) → AllByRecursion P xs → k < length xs → P (get_or xs k d)
all_at P [] k d h within = absurd (omega arith)
all_at P (x ∷ xs) zero d h within = h.0
all_at P (x ∷ xs) (suc k) d h within = all_at P xs k d h.1 (omega arith)

pub length_upto : {A : Type 0} (f : ℕ → A) (n : ℕ) → length (upto f n) ≡ n
length_upto f zero = refl
length_upto f (suc n) = length-append (upto f n) (f n ∷ []) ∙ ap (λ (m : ℕ). m + 1) (length_upto f n) ∙ add-one n

pub at_upto : {A : Type 0} (f : ℕ → A) (n k : ℕ) (d : A) → k < n → get_or (upto f n) k d ≡ f k
at_upto f zero k d within = absurd (omega arith)
at_upto f (suc n) k d within = by (ltb k n) refl (λ less. at_upto f n k d less)
  where
    by : (o : Bool) → ltb k n ≡ o → (k < n → get_or (upto f n) k d ≡ f k) → get_or (upto f n ++ f n ∷ []) k d ≡ f k
    by true is rest =
        let less = ltb-true k n is in
        get_or_append_left (upto f n) (f n ∷ []) d k (let long = length_upto f n in omega (arith, long, less)) ∙ rest less
    by false is rest =
        let same : n ≡ k = let more = ltb-false k n is in omega (arith, more, within) in
        subst (λ (m : ℕ). get_or (upto f n ++ f n ∷ []) m d ≡ f m) same (get_or_at (upto f n) (f n) [] d n (length_upto f n))

-- ---- names

pub name_left : (xs ys : List Name) (net : ℕ) → net < length xs → name_at (xs ++ ys) net ≡ name_at xs net
name_left xs ys net less = get_or_append_left xs ys no_name net less

pub name_right : (xs ys : List Name) (net : ℕ) → length xs ≤ net → name_at (xs ++ ys) net ≡ name_at ys (net - length xs)
name_right xs ys net more = get_or-append_right xs ys (length xs) net no_name refl more

-- Names that stand behind others are new ones.
pub grows_append : (kind : List (List ℕ) → Type 0) (xs ys : List Name) → AllByRecursion (λ (n : Name). kind (spelling_of n).texts) ys → Grows kind xs (xs ++ ys)
grows_append kind xs ys all = record {
  longer = (let long = length-append xs ys in omega (arith, long));
  same = λ net old. name_left xs ys net old;
  made = λ net new within. subst (λ (n : Name). kind (spelling_of n).texts) (sym (name_right xs ys net new)) (all_at _ ys (net - length xs) no_name all (let long = length-append xs ys in omega (arith, long)));
}

-- No two names are alike.
abbrev pub AreDistinct : List Name → Type 0
AreDistinct names = (net other : ℕ) → net < length names → other < length names → spelling_of (name_at names net) ≡ spelling_of (name_at names other) → net ≡ other

-- No name here is like one there.
abbrev pub AreApart : List Name → List Name → Type 0
AreApart xs ys = (net other : ℕ) → net < length xs → other < length ys → spelling_of (name_at xs net) ≡ spelling_of (name_at ys other) → ⊥

pub distinct_append : (xs ys : List Name) → AreDistinct xs → AreDistinct ys → AreApart xs ys → AreDistinct (xs ++ ys)
distinct_append xs ys own others apart net other net_in other_in same = by (ltb net (length xs)) refl (ltb other (length xs)) refl
  where
    long : length (xs ++ ys) ≡ length xs + length ys
    long = length-append xs ys

    by : (b : Bool) → ltb net (length xs) ≡ b → (c : Bool) → ltb other (length xs) ≡ c → net ≡ other
    by true at true bt =
        let net_old = ltb-true net (length xs) at in
        let other_old = ltb-true other (length xs) bt in
        own net other net_old other_old (ap spelling_of (sym (name_left xs ys net net_old)) ∙ same ∙ ap spelling_of (name_left xs ys other other_old))
    by true at false bt =
        let net_old = ltb-true net (length xs) at in
        let other_new = ltb-false other (length xs) bt in
        absurd (apart net (other - length xs) net_old (omega (arith, long)) (ap spelling_of (sym (name_left xs ys net net_old)) ∙ same ∙ ap spelling_of (name_right xs ys other other_new)))
    by false at true bt =
        let net_new = ltb-false net (length xs) at in
        let other_old = ltb-true other (length xs) bt in
        absurd (apart other (net - length xs) other_old (omega (arith, long)) (ap spelling_of (sym (name_left xs ys other other_old)) ∙ sym same ∙ ap spelling_of (name_right xs ys net net_new)))
    by false at false bt =
        let net_new = ltb-false net (length xs) at in
        let other_new = ltb-false other (length xs) bt in
        let alike = others (net - length xs) (other - length xs) (omega (arith, long)) (omega (arith, long)) (ap spelling_of (sym (name_right xs ys net net_new)) ∙ same ∙ ap spelling_of (name_right xs ys other other_new)) in
        omega (arith, alike, net_new, other_new)

pub distinct_upto : (f : ℕ → Name) (n : ℕ) → ((k j : ℕ) → k < n → j < n → spelling_of (f k) ≡ spelling_of (f j) → k ≡ j) → AreDistinct (upto f n)
distinct_upto f n apart net other net_in other_in same =
    let net_less : net < n = let long = length_upto f n in omega (arith, long, net_in) in
    let other_less : other < n = let long = length_upto f n in omega (arith, long, other_in) in
    apart net other net_less other_less (ap spelling_of (sym (at_upto f n net no_name net_less)) ∙ same ∙ ap spelling_of (at_upto f n other no_name other_less))

-- ---- the bits of a range

below_first : (b : Bool) (first last k : ℕ) → last ≤ first → k < (if b then first - last else last - first) + 1 → k ≤ first
below_first true first last k down within = omega arith
below_first false first last k down within = omega arith

below_last : (b : Bool) (first last k : ℕ) → first ≤ last → k < (if b then first - last else last - first) + 1 → first + k ≤ last
below_last true first last k up within = omega arith
below_last false first last k up within = omega arith

some_same : (a b : ℕ) → Some a ≡ Some b → a ≡ b
some_same a b is = cc

-- Each bit has an index of its own.
pub bits_apart : (range : Range) (k j : ℕ) → k < width_of range → j < width_of range → bit_at range k ≡ bit_at range j → k ≡ j
bits_apart None k j k_in j_in same = omega arith
bits_apart (Some r) k j k_in j_in same = by (nat_le r.0 r.1) refl (some_same _ _ same)
  where
    by : (b : Bool) → nat_le r.0 r.1 ≡ b → (if b then r.0 + k else r.0 - k) ≡ (if b then r.0 + j else r.0 - j) → k ≡ j
    by true at is = omega (arith, is)
    by false at is =
        let down : r.1 ≤ r.0 = let less = leb-false r.0 r.1 at in omega (arith, less) in
        let k_low = below_first (nat_le r.1 r.0) r.0 r.1 k down k_in in
        let j_low = below_first (nat_le r.1 r.0) r.0 r.1 j down j_in in
        omega (arith, is, k_low, j_low)

-- It is below 2^31.
pub bits_fit : (range : Range) (k : ℕ) → IsRange range → k < width_of range → FitsIndex (bit_at range k)
bits_fit None k fits k_in = tt
bits_fit (Some r) k fits k_in = by (nat_le r.0 r.1) refl
  where
    by : (b : Bool) → nat_le r.0 r.1 ≡ b → (if b then r.0 + k else r.0 - k) < 2 ^ 31
    by true at = let high = below_last (nat_le r.1 r.0) r.0 r.1 k (leb-true r.0 r.1 at) k_in in let last = fits.1 in omega (arith, high, last)
    by false at = let first = fits.0 in omega (arith, first)

pub all_by : {A : Type 0} (P : A → Type 0) (xs : List A) → All P xs → AllByRecursion P xs
all_by P [] h = tt
all_by P (x ∷ xs) h = (h 0 x (omega arith), all_by P xs (λ k d within. h (suc k) d (omega arith)))
