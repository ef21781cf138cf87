-- Numbers that grow by what definitions mention.
use Rattle.std.proofs.Common.{◌≡◌, ℕ, ◌+◌, ◌<◌, Bool, true, false, List, [], ◌∷◌, ◌++◌, length, take, get_or, Option, Some, None, refl, sym, ap, subst, ◌∙◌, arith, inl, inr, Bor, if◌then◌else◌, All, Contains, slice_get, nat_eq}
use Rattle.std.specs.Prelude.{bytes_eq}
use Rattle.std.specs.List.{IsDistinct, list_any}
use Rattle.std.proofs.lemmas.Bool.{cases_lt}
use Rattle.std.proofs.lemmas.Bool.Decides.{nat_tests}
use Rattle.std.proofs.lemmas.List.{append_assoc, append-nil, take_more, map-append, get_or_append_left}
use Rattle.std.proofs.lemmas.List.Elements.{All-append, All-contains, All-nil, All-push, Contains-append_cases, Contains-append_left, Contains-push, Contains-get_or, at_from_Contains}
use Rattle.std.proofs.lemmas.List.Quantifiers.{position-Some}
use Rattle.std.proofs.lemmas.Map.Steps.{length-le_from_distinct_below}
use Rattle.std.proofs.lemmas.Map.Views.{Contains-from_any}
use Rattle.std.proofs.lemmas.Option.{get_or_from_slice_get, slice_get-get_or, slice_get_within}
use Rattle.netlist_trim.specs.Definition.{Defined}
use Rattle.netlist_trim.specs.Needed.{first_named}
use Rattle.netlist_trim.specs.Reached.{AreReached, Grows, GrowsFrom, IsFirstOf, Leads, Reaches, texts_of, with_first}

-- ---- a number more

pub same_number : (x y : ℕ) → nat_eq x y ≡ true → x ≡ y
same_number x y h = grind (arith, nat_tests)

pub one_of : {A : Type 0} (x y : A) → Contains (x ∷ []) y → y ≡ x
one_of x y has = All-contains (λ z. z ≡ x) (x ∷ []) y (All-push (λ z. z ≡ x) [] x (All-nil (λ z. z ≡ x)) refl) has

pub some_same : {A : Type 0} (x y : A) → Some x ≡ Some y → x ≡ y
some_same x y h = cc

record Added (r : Option ℕ) (mid new : List ℕ) : Type 0 where
  extra : List ℕ
  grown : new ≡ mid ++ extra
  sound : All (λ j. r ≡ Some j) extra
  there : (j : ℕ) → r ≡ Some j → Contains new j

added_by : (b : Bool) (j : ℕ) (mid : List ℕ) → list_any (nat_eq j) mid ≡ b → Added (Some j) mid (if b then mid else (mid ++ j ∷ []))
added_by true j mid e = record {
  extra = [];
  grown = sym (append-nil mid);
  sound = All-nil (λ k. Some j ≡ Some k);
  there = λ k h. subst (Contains mid) (some_same j k h) (Contains-from_any same_number j mid e);
}
added_by false j mid e = record {
  extra = j ∷ [];
  grown = refl;
  sound = All-push (λ k. Some j ≡ Some k) [] j (All-nil (λ k. Some j ≡ Some k)) refl;
  there = λ k h. subst (Contains (mid ++ j ∷ [])) (some_same j k h) (Contains-push mid j);
}

added : (r : Option ℕ) (mid : List ℕ) → Added r mid (with_first r mid)
added None mid = record { extra = []; grown = sym (append-nil mid); sound = All-nil (λ k. None ≡ Some k); there = λ j h. absurd cc }
added (Some j) mid = added_by (list_any (nat_eq j) mid) j mid refl

all_more : {A : Type 0} (P Q : A → Type 0) (xs : List A) → ((x : A) → P x → Q x) → All P xs → All Q xs
all_more P Q xs f h = λ k d less. f _ (h k d less)

-- ---- names more

pub grows_none : (ds : List Defined) (old : List ℕ) → Grows ds [] old old
grows_none ds old = record {
  more = [];
  grown = sym (append-nil old);
  sound = All-nil (IsFirstOf ds []);
  whole = λ name j has first. absurd (All-contains (λ _. ⊥) [] name (All-nil (λ _. ⊥)) has);
}

grows_more : (ds : List Defined) (names : List (List ℕ)) (name : List ℕ) (old mid new : List ℕ)
    → new ≡ with_first (first_named ds name) mid → Grows ds names old mid → Grows ds (names ++ name ∷ []) old new
grows_more ds names name old mid new is g =
    let a : Added (first_named ds name) mid new = subst (Added (first_named ds name) mid) (sym is) (added (first_named ds name) mid) in
    record {
      more = g.more ++ a.extra;
      grown = a.grown ∙ ap (λ (l : List ℕ). l ++ a.extra) g.grown ∙ append_assoc old g.more a.extra;
      sound = All-append (IsFirstOf ds (names ++ name ∷ [])) g.more a.extra
          (all_more (IsFirstOf ds names) (IsFirstOf ds (names ++ name ∷ [])) g.more (λ j h. (h.0, Contains-append_left names (name ∷ []) h.0 h.1, h.2)) g.sound)
          (all_more (λ j. first_named ds name ≡ Some j) (IsFirstOf ds (names ++ name ∷ [])) a.extra (λ j h. (name, Contains-push names name, h)) a.sound);
      whole = λ n j has first. elim (Contains-append_cases names (name ∷ []) n has) as (λ _. Contains new j) [
        | inl h ↦ subst (λ (l : List ℕ). Contains l j) (sym a.grown) (Contains-append_left mid a.extra j (g.whole n j h first))
        | inr h ↦ a.there j (ap (first_named ds) (sym (one_of name n h)) ∙ first)
      ];
    }

pub grows_more_at : (ds : List Defined) (names : List (Bor (List ℕ))) (i : ℕ) (d : Bor (List ℕ)) (old mid new : List ℕ)
    → i < length names → new ≡ with_first (first_named ds (get_or names i d).now) mid
    → Grows ds (texts_of (take i names)) old mid → Grows ds (texts_of (take (i + 1) names)) old new
grows_more_at ds names i d old mid new within is g =
    let texts : texts_of (take (i + 1) names) ≡ texts_of (take i names) ++ (get_or names i d).now ∷ [] =
    ap texts_of (take_more names i d within) ∙ map-append (λ (n : Bor (List ℕ)). n.now) (take i names) (get_or names i d ∷ []) in
    subst (λ (l : List (List ℕ)). Grows ds l old new) (sym texts) (grows_more ds (texts_of (take i names)) (get_or names i d).now old mid new is g)

-- ---- definitions more

-- What is come to so far, and what the first of these lead to.
pub record Covers (ds : List Defined) (top next : ℕ) (numbers : List ℕ) : Type 0 where
  pub begun : Contains numbers top
  pub sound : (k : ℕ) → Contains numbers k → Reaches ds top k
  pub closed : (i k j : ℕ) → i < next → slice_get numbers i ≡ Some k → Leads ds k j → Contains numbers j

pub covers_first : (ds : List Defined) (top : ℕ) (numbers : List ℕ) → numbers ≡ top ∷ [] → Covers ds top 0 numbers
covers_first ds top numbers is = record {
  begun = subst (λ (l : List ℕ). Contains l top) (sym is) (Contains-push [] top);
  sound = λ k has. subst (Reaches ds top) (sym (one_of top k (subst (λ (l : List ℕ). Contains l k) is has))) Reaches.itself;
  closed = λ i k j less at leads. absurd (omega arith);
}

contains_at : (numbers : List ℕ) (i k : ℕ) → slice_get numbers i ≡ Some k → Contains numbers k
contains_at numbers i k at =
    subst (Contains numbers) (get_or_from_slice_get numbers i k k at) (Contains-get_or numbers i k (slice_get_within numbers i k at))

before_more : (numbers more : List ℕ) (i k : ℕ) → i < length numbers → slice_get (numbers ++ more) i ≡ Some k → slice_get numbers i ≡ Some k
before_more numbers more i k less at =
    slice_get-get_or numbers i k less
    ∙ ap (λ (n : ℕ). Some n) (sym (get_or_append_left numbers more k i less) ∙ get_or_from_slice_get (numbers ++ more) i k k at)

pub covers_more : (ds : List Defined) (top next number : ℕ) (old new : List ℕ) → slice_get old next ≡ Some number
    → Covers ds top next old → GrowsFrom ds number old new → Covers ds top (next + 1) new
covers_more ds top next number old new at c g =
    let grow : (j : ℕ) → Contains old j → Contains new j = λ j has. subst (λ (l : List ℕ). Contains l j) (sym g.grows.grown) (Contains-append_left old g.grows.more j has) in
    record {
      begun = grow top c.begun;
      sound = λ k has. elim (Contains-append_cases old g.grows.more k (subst (λ (l : List ℕ). Contains l k) g.grows.grown has)) as (λ _. Reaches ds top k) [
        | inl h ↦ c.sound k h
        | inr h ↦ (let s = All-contains (IsFirstOf ds g.d.mentions) g.grows.more k g.grows.sound h in
            Reaches.led (c.sound number (contains_at old next number at)) (record { d = g.d; is = g.is; name = s.0; mentioned = s.1; first = s.2 }))
      ];
      closed = λ i k j less is leads. elim (cases_lt i next) as (λ _. Contains new j) [
        | inl h ↦ (let within : i < length old = (let l = slice_get_within old next number at in omega arith) in
            grow j (c.closed i k j h (before_more old g.grows.more i k within (subst (λ (l : List ℕ). slice_get l i ≡ Some k) g.grows.grown is)) leads))
        | inr h ↦ (let here : i ≡ next = omega arith in
            let at_old : slice_get old i ≡ Some number = ap (slice_get old) here ∙ at in
            let within : i < length old = slice_get_within old i number at_old in
            let same : k ≡ number = some_same k number (sym (before_more old g.grows.more i k within (subst (λ (l : List ℕ). slice_get l i ≡ Some k) g.grows.grown is)) ∙ at_old) in
            let one : leads.d ≡ g.d = some_same leads.d g.d (sym leads.is ∙ ap (slice_get ds) same ∙ g.is) in
            g.grows.whole leads.name j (subst (λ (d : Defined). Contains d.mentions leads.name) one leads.mentioned) leads.first)
      ];
    }

pub reaches_below : (ds : List Defined) (top k : ℕ) → top < length ds → Reaches ds top k → k < length ds
reaches_below ds top k below Reaches.itself = below
reaches_below ds top k below (Reaches.led {k = before} r leads) =
    (position-Some (λ (d : Defined). bytes_eq leads.name d.name) ds k leads.d leads.first).0

-- The numbers are distinct, and so no more than there are definitions.
pub next_below : (ds : List Defined) (top next number : ℕ) (numbers : List ℕ) → top < length ds → IsDistinct nat_eq numbers
    → slice_get numbers next ≡ Some number → Covers ds top next numbers → next < length ds
next_below ds top next number numbers below distinct at c =
    let few = length-le_from_distinct_below numbers (length ds) distinct (λ q has. reaches_below ds top q below (c.sound q (Contains-from_any same_number q numbers has))) in
    let within = slice_get_within numbers next number at in
    omega arith

pub number_below : (ds : List Defined) (top next number : ℕ) (numbers : List ℕ) → top < length ds
    → slice_get numbers next ≡ Some number → Covers ds top next numbers → number < length ds
number_below ds top next number numbers below at c = reaches_below ds top number below (c.sound number (contains_at numbers next number at))

at_end : (numbers : List ℕ) (next : ℕ) → slice_get numbers next ≡ None → (i : ℕ) (k : ℕ) → i < length numbers → slice_get numbers i ≡ Some k → i < next
at_end numbers next none i k less at = elim (cases_lt i next) as (λ _. i < next) [
  | inl h ↦ h
  | inr h ↦ absurd (let l : next < length numbers = omega arith in let s = slice_get-get_or numbers next k l in (let e : Some (get_or numbers next k) ≡ None = sym s ∙ none in cc))
]

whole_of : (ds : List Defined) (top next : ℕ) (numbers : List ℕ) → slice_get numbers next ≡ None → Covers ds top next numbers
    → (k : ℕ) → Reaches ds top k → Contains numbers k
whole_of ds top next numbers none c k Reaches.itself = c.begun
whole_of ds top next numbers none c k (Reaches.led {k = before} r leads) =
    let h = at_from_Contains numbers before (whole_of ds top next numbers none c before r) in
    let at : slice_get numbers h.0 ≡ Some before = slice_get-get_or numbers h.0 before h.1 ∙ ap (λ (n : ℕ). Some n) (h.2 before) in
    c.closed h.0 before k (at_end numbers next none h.0 before h.1 at) at leads

pub covers_all : (ds : List Defined) (top next : ℕ) (numbers : List ℕ) → slice_get numbers next ≡ None
    → Covers ds top next numbers → AreReached ds top numbers
covers_all ds top next numbers none c = record { sound = c.sound; whole = whole_of ds top next numbers none c }
