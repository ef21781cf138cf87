-- Codes that are found, by the variables that have them.
use Rattle.std.proofs.Common.{◌≡◌, ℕ, zero, suc, ◌+◌, ◌<◌, ◌≤◌, ◌==◌, Bool, true, false, not, ◌||◌, cond, List, [], ◌∷◌, ◌++◌, length, Option, Some, None, refl, sym, ap, ◌∙◌, arith, bytes_eq}
use Rattle.std.proofs.lemmas.Bool.{eq-eqb, ne_eqb}
use Rattle.std.proofs.lemmas.Slice.Eq.{bytes_eq-Decides}
use Rattle.recording_codes.specs.Code.{Code, find, find_from, found, with_kind, with_kind_at}
use Rattle.recording_codes.specs.declared.codes.Found.{Found}
use Rattle.recording_codes.proofs.Numbers.{first_cond, first_of}

-- ---- one more code

pub find_push : (n : ℕ) (cs : List Code) (c : Code) (t : List ℕ) → find_from n (cs ++ c ∷ []) t ≡ first_of (find_from n cs t) (cond (bytes_eq t c.text) (Some (found (n + length cs) c)) None)
find_push n [] c t = let e : n + 0 ≡ n = omega arith in rw e refl
find_push n (x ∷ cs) c t =
    let e : n + 1 + length cs ≡ n + suc (length cs) = omega arith in
    rw (find_push (n + 1) cs c t, e) (first_cond (bytes_eq t x.text) (found n x) (find_from (n + 1) cs t) _)

-- ---- one more variable of a code

-- what is then found
abbrev pub marked : ℕ → Bool → Found → Found
marked number skipped f = cond (f.number == number) (record { number = f.number; width = f.width; skipped = f.skipped || skipped; listed = f.listed || not skipped }) f

abbrev pub marked_in : ℕ → Bool → Option Found → Option Found
marked_in number skipped None = None
marked_in number skipped (Some f) = Some (marked number skipped f)

-- Numbers that are found aren't below the first.
abbrev pub IsFrom : ℕ → Option Found → Type 0
IsFrom n None = Unit {0}
IsFrom n (Some f) = n ≤ f.number

is_from : (n : ℕ) (cs : List Code) (t : List ℕ) → IsFrom n (find_from n cs t)
is_from n [] t = tt
is_from n (c ∷ cs) t = by (bytes_eq t c.text) (find_from (n + 1) cs t) (is_from (n + 1) cs t)
  where
    later : (r : Option Found) → IsFrom (n + 1) r → IsFrom n r
    later None h = tt
    later (Some f) h = omega (arith, h)

    by : (b : Bool) (r : Option Found) → IsFrom (n + 1) r → IsFrom n (cond b (Some (found n c)) r)
    by true r h = omega arith
    by false r h = later r h

-- No later number is marked.
unmarked : (n number : ℕ) (skipped : Bool) (r : Option Found) → number < n → IsFrom n r → marked_in number skipped r ≡ r
unmarked n number skipped None less h = refl
unmarked n number skipped (Some f) less h =
    ap (λ b. Some (cond b (record { number = f.number; width = f.width; skipped = f.skipped || skipped; listed = f.listed || not skipped }) f)) (ne_eqb f.number number (λ same. omega (arith, same, less, h)))

marked_cond : (number : ℕ) (skipped b : Bool) (f g : Found) (r s : Option Found) → g ≡ marked number skipped f → s ≡ marked_in number skipped r → cond b (Some g) s ≡ marked_in number skipped (cond b (Some f) r)
marked_cond number skipped true f g r s first rest = ap Some first
marked_cond number skipped false f g r s first rest = rest

pub find_marked : (n : ℕ) (cs : List Code) (k : ℕ) (skipped : Bool) (t : List ℕ) → find_from n (with_kind_at cs k skipped) t ≡ marked_in (n + k) skipped (find_from n cs t)
find_marked n [] k skipped t = refl
find_marked n (c ∷ cs) zero skipped t =
    let number : n + 0 ≡ n = omega arith in
    let here : found n (with_kind c skipped) ≡ marked (n + 0) skipped (found n c) =
    sym (ap (λ b. cond b (record { number = n; width = c.width; skipped = c.skipped || skipped; listed = c.listed || not skipped }) (found n c)) (eq-eqb n (n + 0) (sym number))) in
    marked_cond (n + 0) skipped (bytes_eq t c.text) (found n c) (found n (with_kind c skipped)) (find_from (n + 1) cs t) (find_from (n + 1) cs t) here
    (sym (unmarked (n + 1) (n + 0) skipped (find_from (n + 1) cs t) (omega arith) (is_from (n + 1) cs t)))
find_marked n (c ∷ cs) (suc k) skipped t =
    let number : n + 1 + k ≡ n + suc k = omega arith in
    let other : found n c ≡ marked (n + suc k) skipped (found n c) =
    sym (ap (λ b. cond b (record { number = n; width = c.width; skipped = c.skipped || skipped; listed = c.listed || not skipped }) (found n c)) (ne_eqb n (n + suc k) (λ same. omega (arith, same)))) in
    marked_cond (n + suc k) skipped (bytes_eq t c.text) (found n c) (found n c) (find_from (n + 1) cs t) (find_from (n + 1) (with_kind_at cs k skipped) t) other
    (find_marked (n + 1) cs k skipped t ∙ ap (λ m. marked_in m skipped (find_from (n + 1) cs t)) number)

-- ---- texts and numbers

-- a code that is found, by its number
pub record IsFoundAt (cs : List Code) (t : List ℕ) (number : ℕ) : Type 0 where
  pub found_ : Found
  pub is : find cs t ≡ Some found_
  pub at : found_.number ≡ number

-- Texts with one number are one.
one_from : (n : ℕ) (cs : List Code) (t u : List ℕ) (f g : Found) → find_from n cs t ≡ Some f → find_from n cs u ≡ Some g → f.number ≡ g.number → t ≡ u
one_from n [] t u f g a b same = absurd cc
one_from n (c ∷ cs) t u f g a b same = by (one_from (n + 1) cs t u f g) (bytes_eq t c.text) (bytes_eq u c.text) refl refl a b
  where
    apart : (h : Found) (r : Option Found) → IsFrom (n + 1) r → r ≡ Some h → n ≡ h.number → ⊥
    apart h None from is number = absurd cc
    apart h (Some x) from is number = (let e : x ≡ h = cc in let number_too : x.number ≡ h.number = ap (λ (y : Found). y.number) e in omega (arith, from, number, number_too))

    first : (h : Found) → (let o : Option Found = Some (found n c) in o) ≡ Some h → n ≡ h.number
    first h is = (let e : found n c ≡ h = cc in ap (λ (y : Found). y.number) e)

    by : (find_from (n + 1) cs t ≡ Some f → find_from (n + 1) cs u ≡ Some g → f.number ≡ g.number → t ≡ u) → (p q : Bool) → bytes_eq t c.text ≡ p → bytes_eq u c.text ≡ q → cond p (Some (found n c)) (find_from (n + 1) cs t) ≡ Some f → cond q (Some (found n c)) (find_from (n + 1) cs u) ≡ Some g → t ≡ u
    by others true true x y a b = (bytes_eq-Decides t c.text).0 x ∙ sym ((bytes_eq-Decides u c.text).0 y)
    by others true false x y a b = absurd (apart g (find_from (n + 1) cs u) (is_from (n + 1) cs u) b (first f a ∙ same))
    by others false true x y a b = absurd (apart f (find_from (n + 1) cs t) (is_from (n + 1) cs t) a (first g b ∙ sym same))
    by others false false x y a b = others a b same

pub one_text : (cs : List Code) (t u : List ℕ) (number : ℕ) → IsFoundAt cs t number → IsFoundAt cs u number → t ≡ u
one_text cs t u number a b = one_from 0 cs t u a.found_ b.found_ a.is b.is (a.at ∙ sym b.at)
