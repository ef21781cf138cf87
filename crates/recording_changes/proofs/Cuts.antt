-- Texts that stand one after the other.
use Rattle.std.proofs.Common.{◌≡◌, ℕ, zero, suc, ◌+◌, ◌<◌, ◌≤◌, List, [], ◌∷◌, ◌++◌, length, refl, sym, ap, ◌∙◌, arith, get_or, slice_range, length-append}
use Rattle.std.proofs.lemmas.Grind.{get_or_default_zero}
use Rattle.std.proofs.lemmas.List.{take-append-le, drop-append-le, length-drop, drop_at, take_all}
use Rattle.recording_changes.specs.Texts.{cut, IsCut}

range_stays : (bytes more : List ℕ) (s e : ℕ) → s ≤ e → e ≤ length bytes → slice_range (bytes ++ more) s e ≡ slice_range bytes s e
range_stays bytes more s e o w = grind (arith, take-append-le, drop-append-le, length-drop)

range_of_end : (bytes ds : List ℕ) → slice_range (bytes ++ ds) (length bytes) (length bytes + length ds) ≡ ds
range_of_end bytes ds = grind (arith, drop_at, take_all)

start_within : (count start : ℕ) (es : List ℕ) → IsCut count start es → start ≤ count
start_within count start [] h = omega (arith, h)
start_within count start (e ∷ es) h = omega (arith, h.0, start_within count e es h.1)

pub length-cut : (bytes : List ℕ) (start : ℕ) (es : List ℕ) → length (cut bytes start es) ≡ length es
length-cut bytes start [] = refl
length-cut bytes start (e ∷ es) = ap (λ (n : ℕ). suc n) (length-cut bytes e es)

pub cut_at : (bytes : List ℕ) (start : ℕ) (es : List ℕ) (k : ℕ) → k < length es → get_or (cut bytes start es) k [] ≡ slice_range bytes (get_or (start ∷ es) k 0) (get_or es k 0)
cut_at bytes start [] k lt = absurd (omega (arith, lt))
cut_at bytes start (e ∷ es) zero lt = refl
cut_at bytes start (e ∷ es) (suc k) lt = cut_at bytes e es k (omega (arith, lt))

pub record Bounds (count start last : ℕ) : Type 0 where
  pub order : start ≤ last
  pub within : last ≤ count

pub bounds_at : (count start : ℕ) (es : List ℕ) (k : ℕ) → IsCut count start es → k < length es → Bounds count (get_or (start ∷ es) k 0) (get_or es k 0)
bounds_at count start [] k h lt = absurd (omega (arith, lt))
bounds_at count start (e ∷ es) zero h lt = record { order = h.0; within = start_within count e es h.1 }
bounds_at count start (e ∷ es) (suc k) h lt = bounds_at count e es k h.1 (omega (arith, lt))

pub IsCut-push : (count more start : ℕ) (es : List ℕ) → IsCut count start es → IsCut (count + more) start (es ++ (count + more) ∷ [])
IsCut-push count more start [] h = (omega (arith, h), refl)
IsCut-push count more start (e ∷ es) h = (h.0, IsCut-push count more e es h.1)

pub cut-push : (bytes ds : List ℕ) (start : ℕ) (es : List ℕ) → IsCut (length bytes) start es → cut (bytes ++ ds) start (es ++ (length bytes + length ds) ∷ []) ≡ cut bytes start es ++ ds ∷ []
cut-push bytes ds start [] h = ap (λ (t : List ℕ). t ∷ []) (ap (λ (s : ℕ). slice_range (bytes ++ ds) s (length bytes + length ds)) h ∙ range_of_end bytes ds)
cut-push bytes ds start (e ∷ es) h = rw (range_stays bytes ds start e h.0 (start_within (length bytes) e es h.1), cut-push bytes ds e es h.1) refl

-- the number of texts is that of their ends
pub count_is : (bytes es : List ℕ) (now : List (List ℕ)) → cut bytes 0 es ≡ now → length es ≡ length now
count_is bytes es now is = sym (length-cut bytes 0 es) ∙ ap (λ (ts : List (List ℕ)). length ts) is

pub text_is : (bytes es : List ℕ) (now : List (List ℕ)) (k : ℕ) → cut bytes 0 es ≡ now → k < length now → slice_range bytes (get_or (0 ∷ es) k 0) (get_or es k 0) ≡ get_or now k []
text_is bytes es now k is lt = sym (cut_at bytes 0 es k (omega (arith, lt, count_is bytes es now is))) ∙ ap (λ (ts : List (List ℕ)). get_or ts k []) is

-- the range of text n, by what was read of the ends
pub bounds_are : (bytes es : List ℕ) (now : List (List ℕ)) (n s e : ℕ) → IsCut (length bytes) 0 es → cut bytes 0 es ≡ now → n < length now → s ≡ get_or (0 ∷ es) n 0 → e ≡ get_or es n e → Bounds (length bytes) s e
bounds_are bytes es now n s e h is lt si ei =
    let within : n < length es = omega (arith, lt, count_is bytes es now is) in
    rw (si, ei ∙ get_or_default_zero es n e within) (bounds_at (length bytes) 0 es n h within)

pub text_at : (bytes es : List ℕ) (now : List (List ℕ)) (n s e : ℕ) → cut bytes 0 es ≡ now → n < length now → s ≡ get_or (0 ∷ es) n 0 → e ≡ get_or es n e → slice_range bytes s e ≡ get_or now n []
text_at bytes es now n s e is lt si ei =
    let within : n < length es = omega (arith, lt, count_is bytes es now is) in
    rw (si, ei ∙ get_or_default_zero es n e within) (text_is bytes es now n is lt)

-- what a push leaves
pub pushed_cut : (bytes ds all es ends : List ℕ) (e : ℕ) → IsCut (length bytes) 0 es → all ≡ bytes ++ ds → ends ≡ es ++ e ∷ [] → e ≡ length bytes + length ds → IsCut (length all) 0 ends
pushed_cut bytes ds all es ends e h a b ei = rw (a, b, ei, length-append bytes ds) (IsCut-push (length bytes) (length ds) 0 es h)

pub pushed_is : (bytes ds all es ends : List ℕ) (e : ℕ) (now : List (List ℕ)) → IsCut (length bytes) 0 es → cut bytes 0 es ≡ now → all ≡ bytes ++ ds → ends ≡ es ++ e ∷ [] → e ≡ length bytes + length ds → cut all 0 ends ≡ now ++ ds ∷ []
pushed_is bytes ds all es ends e now h is a b ei = rw (a, b, ei, ← is) (cut-push bytes ds 0 es h)
