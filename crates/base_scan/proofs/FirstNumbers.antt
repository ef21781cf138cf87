-- Names with numbers, or with what else they stand for: a name that is there keeps its own, so that each has that of the
-- first of its name.
use Rattle.std.proofs.Common.{◌≡◌, ℕ, ◌+◌, ◌<◌, ◌≤◌, Bool, true, false, cond, List, [], ◌∷◌, ◌++◌, length, Option, Some, None, refl, sym, ap, ◌∙◌, bytes_eq, if◌then◌else◌, is_some, position, arith, nat_lt, ◌==◌, inl, inr, length-append, not, IfSome}
use Rattle.std.specs.Map.{lookup}
use Rattle.std.specs.Option.{option_or}
use Rattle.std.specs.List.{position_or_len}
use Rattle.std.proofs.lemmas.List.Folds.{position_or_len_push}
use Rattle.std.proofs.lemmas.List.Sums.{prefix_len-le-length}
use Rattle.std.proofs.lemmas.Bool.{cases_lt, lt-ltb, le-ltb, ltb-true}
use Rattle.std.proofs.lemmas.Bool.Decides.{nat_tests}
use Rattle.base_scan.proofs.Fronts.{same_word}

-- an answer where the test passes
abbrev pub only : {A : Type 0} → Bool → A → Option A
only b x = cond b (Some x) None

pub or_none : {A : Type 0} (o : Option A) → option_or o None ≡ o
or_none None = refl
or_none (Some x) = refl

lookup_by : {A : Type 0} (b : Bool) (d : A) (rest more : Option A) → cond b (Some d) (option_or rest more) ≡ option_or (cond b (Some d) rest) more
lookup_by true d rest more = refl
lookup_by false d rest more = refl

lookup_push : {A : Type 0} (test : List ℕ → Bool) (es : List (List ℕ × A)) (name : List ℕ) (d : A) → lookup test (es ++ (name, d) ∷ []) ≡ option_or (lookup test es) (only (test name) d)
lookup_push test [] name d = refl
lookup_push test (e ∷ es) name d = ap (cond (test e.0) (Some e.1)) (lookup_push test es name d) ∙ lookup_by (test e.0) e.1 (lookup test es) (only (test name) d)

absorbed : {A : Type 0} (b : Bool) (o : Option A) (d : A) → is_some o ≡ true → o ≡ option_or o (only b d)
absorbed b None d there = absurd cc
absorbed b (Some x) d there = refl

known : {A : Type 0} (b : Bool) (numbers : List (List ℕ × A)) (q name : List ℕ) (d : A) → bytes_eq q name ≡ b → is_some (lookup (bytes_eq name) numbers) ≡ true
    → lookup (bytes_eq q) numbers ≡ option_or (lookup (bytes_eq q) numbers) (only b d)
known true numbers q name d is there = absorbed true (lookup (bytes_eq q) numbers) d (ap (λ (n : List ℕ). is_some (lookup (bytes_eq n) numbers)) (same_word q name is) ∙ there)
known false numbers q name d is there = sym (or_none (lookup (bytes_eq q) numbers))

number_by : {A : Type 0} (b : Bool) (numbers : List (List ℕ × A)) (q name : List ℕ) (d : A) → is_some (lookup (bytes_eq name) numbers) ≡ b
    → lookup (bytes_eq q) (if b then numbers else (numbers ++ (name, d) ∷ [])) ≡ option_or (lookup (bytes_eq q) numbers) (only (bytes_eq q name) d)
number_by true numbers q name d there = known (bytes_eq q name) numbers q name d refl there
number_by false numbers q name d there = lookup_push (bytes_eq q) numbers name d

pub number_more : {A : Type 0} (numbers : List (List ℕ × A)) (q name : List ℕ) (d : A) → lookup (bytes_eq q) (if is_some (lookup (bytes_eq name) numbers) then numbers else (numbers ++ (name, d) ∷ [])) ≡ option_or (lookup (bytes_eq q) numbers) (only (bytes_eq q name) d)
number_more numbers q name d = number_by (is_some (lookup (bytes_eq name) numbers)) numbers q name d refl

pub picked : (t : Bool) (k n : ℕ) → t ≡ true → k ≡ n → cond t (Some k) None ≡ Some n
picked true k n h is = ap (λ (i : ℕ). Some i) is
picked false k n h is = absurd cc

unpicked : (t : Bool) (k : ℕ) → t ≡ false → cond t (Some k) None ≡ None
unpicked true k h = absurd cc
unpicked false k h = refl

at_end : (b : Bool) (k n : ℕ) → k ≡ n + cond b 0 1 → cond (nat_lt k (n + 1)) (Some k) None ≡ option_or (cond (nat_lt n n) (Some n) None) (only b n)
at_end true k n is = picked (nat_lt k (n + 1)) k n (lt-ltb k (n + 1) (omega arith)) (omega arith) ∙ ap (λ (o : Option ℕ). option_or o (Some n)) (sym (unpicked (nat_lt n n) n (le-ltb n n (omega arith))))
at_end false k n is = unpicked (nat_lt k (n + 1)) k (le-ltb k (n + 1) (omega arith)) ∙ ap (λ (o : Option ℕ). option_or o None) (sym (unpicked (nat_lt n n) n (le-ltb n n (omega arith))))

before_end : (b : Bool) (k n : ℕ) → k < n → cond (nat_lt k (n + 1)) (Some k) None ≡ option_or (cond (nat_lt k n) (Some k) None) (only b n)
before_end b k n less = picked (nat_lt k (n + 1)) k k (lt-ltb k (n + 1) (omega arith)) refl ∙ ap (λ (o : Option ℕ). option_or o (only b n)) (sym (picked (nat_lt k n) k k (lt-ltb k n less) refl))

pushed : (b : Bool) (k n j : ℕ) → k ≤ n → j ≡ cond (k == n) (n + cond b 0 1) k → cond (nat_lt j (n + 1)) (Some j) None ≡ option_or (cond (nat_lt k n) (Some k) None) (only b n)
pushed b k n j within is = elim (cases_lt k n) as (λ _. cond (nat_lt j (n + 1)) (Some j) None ≡ option_or (cond (nat_lt k n) (Some k) None) (only b n)) [
  | inl less ↦ (let other : (k == n) ≡ false = grind (arith, nat_tests) in
      let same : j ≡ k = is ∙ ap (λ (t : Bool). cond t (n + cond b 0 1) k) other in
      ap (λ (i : ℕ). cond (nat_lt i (n + 1)) (Some i) None) same ∙ before_end b k n less)
  | inr more ↦ (let here : k ≡ n = omega arith in
      let equal : (k == n) ≡ true = grind (arith, nat_tests) in
      let there : j ≡ n + cond b 0 1 = is ∙ ap (λ (t : Bool). cond t (n + cond b 0 1) k) equal in
      at_end b j n there ∙ ap (λ (i : ℕ). option_or (cond (nat_lt i n) (Some i) None) (only b n)) (sym here))
]

at_most : {X : Type 0} (p : X → Bool) (xs : List X) → position_or_len p xs ≤ length xs
at_most p xs = prefix_len-le-length (λ x. not (p x)) xs

pub position_push : {X : Type 0} (p : X → Bool) (xs : List X) (x : X) → position p (xs ++ x ∷ []) ≡ option_or (position p xs) (only (p x) (length xs))
position_push {X} p xs x =
    let long : length (xs ++ x ∷ []) ≡ length xs + 1 = length-append xs (x ∷ []) in
    ap (λ (n : ℕ). cond (nat_lt (position_or_len p (xs ++ x ∷ [])) n) (Some (position_or_len p (xs ++ x ∷ []))) None) long
    ∙ pushed (p x) (position_or_len p xs) (length xs) (position_or_len p (xs ++ x ∷ [])) (at_most p xs) (position_or_len_push p xs x)

pub number_new : {A : Type 0} (numbers old : List (List ℕ × A)) (name : List ℕ) (d : A) → numbers ≡ old → is_some (lookup (bytes_eq name) old) ≡ false → numbers ++ (name, d) ∷ [] ≡ (if is_some (lookup (bytes_eq name) old) then old else (old ++ (name, d) ∷ []))
number_new {A} numbers old name d is absent =
    ap (λ (l : List (List ℕ × A)). l ++ (name, d) ∷ []) is ∙ sym (ap (λ (b : Bool). if b then old else (old ++ (name, d) ∷ [])) absent)

pub number_known : {A : Type 0} (old : List (List ℕ × A)) (name : List ℕ) (d : A) → is_some (lookup (bytes_eq name) old) ≡ true → old ≡ (if is_some (lookup (bytes_eq name) old) then old else (old ++ (name, d) ∷ []))
number_known {A} old name d there = sym (ap (λ (b : Bool). if b then old else (old ++ (name, d) ∷ [])) there)

within_by : (t : Bool) (k n : ℕ) → nat_lt k n ≡ t → IfSome (cond t (Some k) None) (λ (i : ℕ). i < n)
within_by true k n less = ltb-true k n less
within_by false k n less = tt

pub position_within : {X : Type 0} (p : X → Bool) (xs : List X) → IfSome (position p xs) (λ (i : ℕ). i < length xs)
position_within p xs = within_by (nat_lt (position_or_len p xs) (length xs)) (position_or_len p xs) (length xs) refl
