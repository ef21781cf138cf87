-- The first element that passes a test, and elements of a list.
use Rattle.std.proofs.Common.{◌≡◌, ℕ, zero, suc, ◌<◌, Bool, true, false, cond, not, Some, None, List, [], ◌∷◌, length, slice_index_or, refl, sym, ap, ◌∙◌, arith, ◌⊎◌, inl, inr, subst, ◌==◌, ◌||◌, eq-eqb}
use Rattle.std.specs.List.{find, list_any, Contains, AllByRecursion}
use Rattle.std.proofs.lemmas.List.{get_or_default}
use Rattle.std.proofs.lemmas.Bool.Decides.{eqb_tells}

pub cases_bool : (b : Bool) → (b ≡ true) ⊎ (b ≡ false)
cases_bool true = inl refl
cases_bool false = inr refl

pub contains_here : {A : Type 0} (x : A) (xs : List A) → Contains (x ∷ xs) x
contains_here x xs = (0, omega arith, refl)

pub contains_there : {A : Type 0} (x : A) (xs : List A) (y : A) → Contains xs y → Contains (x ∷ xs) y
contains_there x xs y (k, lt, e) = (suc k, omega arith, e)

pub contains_cases : {A : Type 0} (x : A) (xs : List A) (y : A) → Contains (x ∷ xs) y → (x ≡ y) ⊎ Contains xs y
contains_cases x xs y (zero, lt, e) = inl e
contains_cases x xs y (suc k, lt, e) = inr (k, omega arith, e)

pub contains_none : {A : Type 0} (y : A) → Contains [] y → ⊥
contains_none y (k, lt, e) = omega arith

pub all_from : {A : Type 0} (P : A → Type 0) (xs : List A) → ((x : A) → Contains xs x → P x) → AllByRecursion P xs
all_from P [] h = tt
all_from P (x ∷ xs) h = (h x (contains_here x xs), all_from P xs (λ y c. h y (contains_there x xs y c)))

pub all_to : {A : Type 0} (P : A → Type 0) (xs : List A) (x : A) → AllByRecursion P xs → Contains xs x → P x
all_to P [] x all c = absurd (contains_none x c)
all_to P (y ∷ ys) x all c = elim (contains_cases y ys x c) as (λ _. P x) [
  | inl e ↦ subst P e all.0
  | inr d ↦ all_to P ys x all.1 d
]

pub find_none : {A : Type 0} (p : A → Bool) (xs : List A) → find p xs ≡ None → (y : A) → Contains xs y → p y ≡ false
find_none p [] h y c = absurd (contains_none y c)
find_none p (x ∷ xs) h y c = elim (cases_bool (p x)) as (λ _. p y ≡ false) [
  | inl e ↦ absurd (let f = rw e at h in cc)
  | inr e ↦ (let f = rw e at h in elim (contains_cases x xs y c) as (λ _. p y ≡ false) [
    | inl s ↦ ap p (sym s) ∙ e
    | inr d ↦ find_none p xs f y d
  ])
]

pub find_some : {A : Type 0} (p : A → Bool) (xs : List A) (y : A) → find p xs ≡ Some y → Contains xs y × (p y ≡ true)
find_some p [] y h = absurd (let no : None ≡ Some y = h in cc)
find_some {A} p (x ∷ xs) y h = elim (cases_bool (p x)) as (λ _. Contains (x ∷ xs) y × (p y ≡ true)) [
  | inl e ↦ (let f : Some x ≡ Some y = rw e at h in let s : x ≡ y = cc in (subst (λ (z : A). Contains (x ∷ xs) z) s (contains_here x xs), subst (λ (z : A). p z ≡ true) s e))
  | inr e ↦ (let r = find_some p xs y (rw e at h) in (contains_there x xs y r.0, r.1))
]

pub find_from : {A : Type 0} (p : A → Bool) (xs : List A) → ((y : A) → Contains xs y → p y ≡ false) → find p xs ≡ None
find_from p [] h = refl
find_from p (x ∷ xs) h = rw (h x (contains_here x xs)) (find_from p xs (λ y c. h y (contains_there x xs y c)))

pub find_same : {A : Type 0} (p q : A → Bool) (xs : List A) → ((y : A) → Contains xs y → p y ≡ q y) → find p xs ≡ find q xs
find_same p q [] h = refl
find_same p q (x ∷ xs) h = rw (h x (contains_here x xs)) (ap (cond (q x) (Some x)) (find_same p q xs (λ y c. h y (contains_there x xs y c))))

pub not_true : (b : Bool) → not b ≡ false → b ≡ true
not_true true h = refl
not_true false h = sym h

pub not_false : (b : Bool) → not b ≡ true → b ≡ false
not_false true h = sym h
not_false false h = refl

pub contains_at : (xs : List ℕ) (k : ℕ) → k < length xs → Contains xs (slice_index_or xs k 0)
contains_at xs k lt = (k, lt, get_or_default xs k (slice_index_or xs k 0) 0 lt)

-- where a number stands in a list
pub index_of : (xs : List ℕ) (x : ℕ) → Contains xs x → (k : ℕ) × (k < length xs) × (slice_index_or xs k 0 ≡ x)
index_of xs x (k, lt, e) = (k, lt, get_or_default xs k 0 x lt ∙ e)

pub any_from : (xs : List ℕ) (a : ℕ) → Contains xs a → list_any (λ other. other == a) xs ≡ true
any_from [] a c = absurd (contains_none a c)
any_from (x ∷ xs) a c = elim (contains_cases x xs a c) as (λ _. (x == a || list_any (λ other. other == a) xs) ≡ true) [
  | inl e ↦ (let here : (x == a) ≡ true = eq-eqb x a e in rw here refl)
  | inr d ↦ rw (any_from xs a d) (or_true (x == a))
]
  where
    or_true : (b : Bool) → (b || true) ≡ true
    or_true true = refl
    or_true false = refl

pub any_none : (xs : List ℕ) (a : ℕ) → (Contains xs a → ⊥) → list_any (λ other. other == a) xs ≡ false
any_none [] a absent = refl
any_none (x ∷ xs) a absent = elim (eqb_tells x a) as (λ _. (x == a || list_any (λ other. other == a) xs) ≡ false) [
  | inl p ↦ absurd (absent (subst (λ y. Contains (x ∷ xs) y) p.1 (contains_here x xs)))
  | inr p ↦ rw p.0 (any_none xs a (λ c. absent (contains_there x xs a c)))
]
