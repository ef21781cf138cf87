-- The codes that stand in columns.
use Rattle.std.proofs.Common.{◌≡◌, ℕ, zero, suc, ◌<◌, List, [], ◌∷◌, ◌++◌, length, take, Bool, refl, sym, ap, ◌∙◌, arith, get_or, set, subst}
use Rattle.recording_codes.specs.Code.{Code, with_kind_at}
use Rattle.recording_codes.specs.Columns.{code_of, codes_of, marked}
use Rattle.recording_codes.specs.declared.columns.Mark.{Mark}
use denote.Ref.{Bor}

pub length-codes_of : (ts : List (Bor (List ℕ))) (ms : List Mark) → length ts ≡ length ms → length (codes_of ts ms) ≡ length ms
length-codes_of [] [] h = refl
length-codes_of [] (m ∷ ms) h = absurd (omega (arith, h))
length-codes_of (t ∷ ts) [] h = absurd (omega (arith, h))
length-codes_of (t ∷ ts) (m ∷ ms) h = ap (λ (n : ℕ). suc n) (length-codes_of ts ms (omega (arith, h)))

pub codes_of-push : (ts : List (Bor (List ℕ))) (ms : List Mark) (t : Bor (List ℕ)) (m : Mark) → length ts ≡ length ms → codes_of (ts ++ t ∷ []) (ms ++ m ∷ []) ≡ codes_of ts ms ++ code_of t.now m ∷ []
codes_of-push [] [] t m h = refl
codes_of-push [] (n ∷ ms) t m h = absurd (omega (arith, h))
codes_of-push (s ∷ ts) [] t m h = absurd (omega (arith, h))
codes_of-push (s ∷ ts) (n ∷ ms) t m h = ap (λ (cs : List Code). code_of s.now n ∷ cs) (codes_of-push ts ms t m (omega (arith, h)))

pub codes_of-take : (k : ℕ) (ts : List (Bor (List ℕ))) (ms : List Mark) → codes_of (take k ts) (take k ms) ≡ take k (codes_of ts ms)
codes_of-take zero ts ms = refl
codes_of-take (suc k) [] ms = refl
codes_of-take (suc k) (t ∷ ts) [] = refl
codes_of-take (suc k) (t ∷ ts) (m ∷ ms) = ap (λ (cs : List Code). code_of t.now m ∷ cs) (codes_of-take k ts ms)

pub record IsRow (m : Mark) (c : Code) : Type 0 where
  pub width : m.width ≡ c.width
  pub skipped : m.skipped ≡ c.skipped
  pub listed : m.listed ≡ c.listed

pub row_at : (ts : List (Bor (List ℕ))) (ms : List Mark) (k : ℕ) (m : Mark) (d : Code) → length ts ≡ length ms → k < length ms → IsRow (get_or ms k m) (get_or (codes_of ts ms) k d)
row_at [] [] k m d h lt = absurd (omega (arith, lt))
row_at [] (n ∷ ms) k m d h lt = absurd (omega (arith, h))
row_at (t ∷ ts) [] k m d h lt = absurd (omega (arith, lt))
row_at (t ∷ ts) (n ∷ ms) zero m d h lt = record { width = refl; skipped = refl; listed = refl }
row_at (t ∷ ts) (n ∷ ms) (suc k) m d h lt = row_at ts ms k m d (omega (arith, h)) (omega (arith, lt))

-- the number of codes, and what is read of one
pub count_is : (ts : List (Bor (List ℕ))) (ms : List Mark) (now : List Code) → codes_of ts ms ≡ now → length ts ≡ length ms → length ms ≡ length now
count_is ts ms now view h = sym (length-codes_of ts ms h) ∙ ap (λ (cs : List Code). length cs) view

pub mark_is : (ts : List (Bor (List ℕ))) (ms : List Mark) (now : List Code) (k : ℕ) (m : Mark) (d : Code) → codes_of ts ms ≡ now → length ts ≡ length ms → k < length now → m ≡ get_or ms k m → IsRow m (get_or now k d)
mark_is ts ms now k m d view h lt is =
    let within : k < length ms = omega (arith, lt, count_is ts ms now view h) in
    rw (← view) (subst (λ (x : Mark). IsRow x (get_or (codes_of ts ms) k d)) (sym is) (row_at ts ms k m d h within))

-- what a push and a cut leave
pub pushed_is : (ts all : List (Bor (List ℕ))) (ms marks : List Mark) (now : List Code) (t : Bor (List ℕ)) (m : Mark) → codes_of ts ms ≡ now → length ts ≡ length ms → all ≡ ts ++ t ∷ [] → marks ≡ ms ++ m ∷ [] → codes_of all marks ≡ now ++ code_of t.now m ∷ []
pushed_is ts all ms marks now t m view h a b = rw (a, b, ← view) (codes_of-push ts ms t m h)

pub cut_is : (ts some : List (Bor (List ℕ))) (ms marks : List Mark) (now : List Code) (k : ℕ) → codes_of ts ms ≡ now → some ≡ take k ts → marks ≡ take k ms → codes_of some marks ≡ take k now
cut_is ts some ms marks now k view a b = rw (a, b, ← view) (codes_of-take k ts ms)

-- one more variable of the code in a row
codes_of-set : (ts : List (Bor (List ℕ))) (ms : List Mark) (k : ℕ) (m : Mark) (skipped : Bool) → length ts ≡ length ms → k < length ms → codes_of ts (set ms k (marked (get_or ms k m) skipped)) ≡ with_kind_at (codes_of ts ms) k skipped
codes_of-set [] [] k m skipped h lt = absurd (omega (arith, lt))
codes_of-set [] (n ∷ ms) k m skipped h lt = absurd (omega (arith, h))
codes_of-set (t ∷ ts) [] k m skipped h lt = absurd (omega (arith, lt))
codes_of-set (t ∷ ts) (n ∷ ms) zero m skipped h lt = refl
codes_of-set (t ∷ ts) (n ∷ ms) (suc k) m skipped h lt = ap (λ (cs : List Code). code_of t.now n ∷ cs) (codes_of-set ts ms k m skipped (omega (arith, h)) (omega (arith, lt)))

pub marked_is : (ts : List (Bor (List ℕ))) (ms marks : List Mark) (now : List Code) (k : ℕ) (m new : Mark) (skipped : Bool) → codes_of ts ms ≡ now → length ts ≡ length ms → k < length now → m ≡ get_or ms k m → new ≡ marked m skipped → marks ≡ set ms k new → codes_of ts marks ≡ with_kind_at now k skipped
marked_is ts ms marks now k m new skipped view h lt is made write =
    let within : k < length ms = omega (arith, lt, count_is ts ms now view h) in
    let read : set ms k new ≡ set ms k (marked (get_or ms k m) skipped) = ap (λ (x : Mark). set ms k x) made ∙ ap (λ (x : Mark). set ms k (marked x skipped)) is in
    rw (← view) (ap (λ (x : List Mark). codes_of ts x) (write ∙ read) ∙ codes_of-set ts ms k m skipped h within)
