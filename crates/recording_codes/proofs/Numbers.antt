-- The numbers of codes in a list.
use Rattle.std.proofs.Common.{◌≡◌, ℕ, zero, suc, ◌+◌, ◌-◌, ◌<◌, ◌≤◌, Bool, true, false, cond, List, [], ◌∷◌, ◌++◌, length, Option, Some, None, refl, sym, ap, ◌∙◌, arith, bytes_eq, get_or}
use Rattle.recording_codes.specs.Code.{Code, code, found, find, find_from, with_kind_at}
use Rattle.recording_codes.specs.Slots.{Knows, number_from, number_of}
use denote.Ref.{Bor}

-- the list from n on has this code at k
pub record HasAt (n : ℕ) (cs : List Code) (t : List ℕ) (k : ℕ) : Type 0 where
  pub low : n ≤ k
  pub high : k < n + length cs
  pub is : (d : Code) → find_from n cs t ≡ Some (found k (get_or cs (k - n) d))

same_number : (a b : ℕ) → Some a ≡ Some b → a ≡ b
same_number a b h = cc

has_at : (n : ℕ) (cs : List Code) (t : List ℕ) (k : ℕ) → number_from n cs t ≡ Some k → HasAt n cs t k
has_at n [] t k h = let e : None ≡ Some k = h in cc
has_at n (c ∷ cs) t k h =
    let P : Bool → Type 0 = λ v. bytes_eq t c.text ≡ v → HasAt n (c ∷ cs) t k in
    let by : (v : Bool) → P v = λ v. elim v as P [
      | true ↦ λ e.
          let here : n ≡ k = same_number n k (ap (λ (v : Bool). cond v (Some n) (number_from (n + 1) cs t)) (sym e) ∙ h) in
          let none : k - n ≡ 0 = omega (arith, here) in
          record { low = omega (arith, here); high = omega (arith, here); is = λ d. rw (e, none, here) refl }
      | false ↦ λ e.
          let rest = has_at (n + 1) cs t k (ap (λ (v : Bool). cond v (Some n) (number_from (n + 1) cs t)) (sym e) ∙ h) in
          let step : k - n ≡ suc (k - (n + 1)) = omega (arith, rest.low) in
          record { low = omega (arith, rest.low); high = omega (arith, rest.high); is = λ d. rw (e, step) (rest.is d) }
    ] in
    by (bytes_eq t c.text) refl

-- a number that is told is a code's
pub number_within : (cs : List Code) (t : List ℕ) (k : ℕ) → Some k ≡ number_of cs t → k < length cs
number_within cs t k h = omega (arith, (has_at 0 cs t k (sym h)).high)

find_is : (cs : List Code) (t : List ℕ) (k : ℕ) (d : Code) → Some k ≡ number_of cs t → find cs t ≡ Some (found k (get_or cs k d))
find_is cs t k d h = let same : k - 0 ≡ k = omega arith in (has_at 0 cs t k (sym h)).is d ∙ ap (λ (n : ℕ). Some (found k (get_or cs n d))) same

-- what is told of the code with a number that was found
pub told_of : (cs : List Code) (t : List ℕ) (k width : ℕ) (skipped listed : Bool) → Some k ≡ number_of cs t → ((d : Code) → width ≡ (get_or cs k d).width) → ((d : Code) → skipped ≡ (get_or cs k d).skipped) → ((d : Code) → listed ≡ (get_or cs k d).listed) → find cs t ≡ Some (record { number = k; width = width; skipped = skipped; listed = listed })
told_of cs t k width skipped listed h w s l =
    let d : Code = code t 0 true in
    rw (w d, s d, l d) (find_is cs t k d h)

if_none : {A B : Type 0} (b : Bool) (x : A) (r : Option A) (y : B) (s : Option B) → cond b (Some x) r ≡ None → (r ≡ None → s ≡ None) → cond b (Some y) s ≡ None
if_none true x r y s h k = cc
if_none false x r y s h k = k h

pub find_none : (n : ℕ) (cs : List Code) (t : List ℕ) → number_from n cs t ≡ None → find_from n cs t ≡ None
find_none n [] t h = refl
find_none n (c ∷ cs) t h = if_none (bytes_eq t c.text) n _ (found n c) _ h (find_none (n + 1) cs t)

pub number_none : (n : ℕ) (cs : List Code) (t : List ℕ) → find_from n cs t ≡ None → number_from n cs t ≡ None
number_none n [] t h = refl
number_none n (c ∷ cs) t h = if_none (bytes_eq t c.text) (found n c) _ n _ h (number_none (n + 1) cs t)

-- the first of two answers
abbrev pub first_of : {A : Type 0} → Option A → Option A → Option A
first_of (Some a) r = Some a
first_of None r = r

pub first_cond : {A : Type 0} (b : Bool) (a : A) (p r : Option A) → cond b (Some a) (first_of p r) ≡ first_of (cond b (Some a) p) r
first_cond true a p r = refl
first_cond false a p r = refl

-- a code more
pub number-push : (n : ℕ) (cs : List Code) (c : Code) (t : List ℕ) → number_from n (cs ++ c ∷ []) t ≡ first_of (number_from n cs t) (cond (bytes_eq t c.text) (Some (n + length cs)) None)
number-push n [] c t = let e : n + 0 ≡ n = omega arith in rw e refl
number-push n (x ∷ cs) c t =
    let e : n + 1 + length cs ≡ n + suc (length cs) = omega arith in
    rw (number-push (n + 1) cs c t, e) (first_cond (bytes_eq t x.text) n (number_from (n + 1) cs t) _)

-- one more variable of a code changes no number
number-with_kind_at : (n : ℕ) (cs : List Code) (k : ℕ) (skipped : Bool) (t : List ℕ) → number_from n (with_kind_at cs k skipped) t ≡ number_from n cs t
number-with_kind_at n [] k skipped t = refl
number-with_kind_at n (c ∷ cs) zero skipped t = refl
number-with_kind_at n (c ∷ cs) (suc k) skipped t = ap (λ (r : Option ℕ). cond (bytes_eq t c.text) (Some n) r) (number-with_kind_at (n + 1) cs k skipped t)

pub knows-with_kind_at : (slots : List ℕ) (others : List (Bor (List ℕ) × ℕ)) (cs : List Code) (k : ℕ) (skipped : Bool) → Knows slots others cs → Knows slots others (with_kind_at cs k skipped)
knows-with_kind_at slots others cs k skipped h = λ t. h t ∙ sym (number-with_kind_at 0 cs k skipped t)
