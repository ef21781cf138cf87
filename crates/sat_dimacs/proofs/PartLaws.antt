-- Parts: the first one, and how many there are.
use Rattle.std.proofs.Common.{◌≡◌, ℕ, suc, ◌+◌, ◌<◌, ◌≤◌, ◌==◌, Bool, true, false, cond, List, [], ◌∷◌, length, take, drop, refl, ap, arith, add-one}
use Rattle.base_scan.specs.declared.gap.Gap.{Gap}
use Rattle.std.specs.Prelude.{filter, not}
use Rattle.base_scan.specs.declared.gap.Gap.TheVariants.{Byte}
use Rattle.sat_dimacs.specs.Faults.{is_cut_short, line_after}
use Rattle.base_scan.specs.Gaps.{IsCut, IsWhole, first_length, is_gap, with_front}
use Rattle.sat_dimacs.specs.Lines.{lines_in, parts}

-- There are no more parts than bytes.
front_few : (b n : ℕ) (ps : List (List ℕ)) → length ps ≤ n → length (with_front b ps) ≤ suc n
front_few b n [] few = omega arith
front_few b n (p ∷ ps) few = omega (arith, few)

pub parts_few : (gap : Gap) (bs : List ℕ) → length (parts gap bs) ≤ length bs
parts_few gap [] = omega arith
parts_few gap (b ∷ bs) =
    let before = parts_few gap bs in
    elim (is_gap gap b) as (λ t. length (cond t ([] ∷ parts gap bs) (with_front b (parts gap bs))) ≤ length (b ∷ bs)) [
      | true ↦ omega (arith, before)
      | false ↦ front_few b (length bs) (parts gap bs) before
    ]

-- The first part ends at the first gap, and the others are those after it.
longer : (gap : Gap) (b m : ℕ) (bs : List ℕ) → parts gap bs ≡ take m bs ∷ parts gap (drop (suc m) bs)
    → with_front b (parts gap bs) ≡ take (suc m) (b ∷ bs) ∷ parts gap (drop (suc (suc m)) (b ∷ bs))
longer gap b m bs before = ap (with_front b) before

abbrev Cuts : Gap → ℕ → List ℕ → Bool → Type 0
Cuts gap b bs t = cond t 0 (first_length gap bs + 1) < length (b ∷ bs)
    → cond t ([] ∷ parts gap bs) (with_front b (parts gap bs))
    ≡ take (cond t 0 (first_length gap bs + 1)) (b ∷ bs)
    ∷ parts gap (drop (suc (cond t 0 (first_length gap bs + 1))) (b ∷ bs))

first_cut : (gap : Gap) (bs : List ℕ) → first_length gap bs < length bs
    → parts gap bs ≡ take (first_length gap bs) bs ∷ parts gap (drop (suc (first_length gap bs)) bs)
first_cut gap [] less = absurd (omega arith)
first_cut gap (b ∷ bs) less =
    (elim (is_gap gap b) as (Cuts gap b bs) [
      | true ↦ λ h. refl
      | false ↦ λ h. rw add-one (longer gap b (first_length gap bs) bs (first_cut gap bs (omega (arith, h))))
    ]) less

-- A text without a gap is one part.
abbrev Uncut : Gap → ℕ → List ℕ → Bool → Type 0
Uncut gap b bs t = cond t 0 (first_length gap bs + 1) ≡ length (b ∷ bs)
    → cond t ([] ∷ parts gap bs) (with_front b (parts gap bs)) ≡ (b ∷ bs) ∷ []

first_only : (gap : Gap) (b : ℕ) (bs : List ℕ) → first_length gap bs ≡ length bs → with_front b (parts gap bs) ≡ (b ∷ bs) ∷ []
first_only gap b [] is = refl
first_only gap b (c ∷ cs) is =
    ap (with_front b)
    ((elim (is_gap gap c) as (Uncut gap c cs) [
      | true ↦ λ h. absurd (omega (arith, h))
      | false ↦ λ h. first_only gap c cs (omega (arith, h))
    ]) is)

first_all : (gap : Gap) (bs : List ℕ) → 0 < length bs → first_length gap bs ≡ length bs → parts gap bs ≡ bs ∷ []
first_all gap [] some is = absurd (omega (arith, some))
first_all gap (b ∷ bs) some is =
    (elim (is_gap gap b) as (Uncut gap b bs) [
      | true ↦ λ h. absurd (omega (arith, h))
      | false ↦ λ h. first_only gap b bs (omega (arith, h))
    ]) is

pub parts_cut : (gap : Gap) (text front rest : List ℕ) → IsCut gap text front rest → parts gap text ≡ front ∷ parts gap rest
parts_cut gap text front rest is = rw (is.before, is.after) (first_cut gap text is.some)

pub parts_whole : (gap : Gap) (text front : List ℕ) → 0 < length text → IsWhole gap text front → parts gap text ≡ front ∷ []
parts_whole gap text front some is = rw is.is (first_all gap text some is.none)

-- The line after the last is counted by lines as by newlines.
front_filled : (b c : ℕ) (bs : List ℕ) → length (with_front b (parts (Byte 10) (c ∷ bs))) ≡ length (parts (Byte 10) (c ∷ bs))
front_filled b c bs =
    elim (c == 10) as (λ t. length (with_front b (cond t ([] ∷ parts (Byte 10) bs) (with_front c (parts (Byte 10) bs))))
    ≡ length (cond t ([] ∷ parts (Byte 10) bs) (with_front c (parts (Byte 10) bs)))) [
      | true ↦ refl
      | false ↦ twice (parts (Byte 10) bs)
    ]
  where
    twice : (ps : List (List ℕ)) → length (with_front b (with_front c ps)) ≡ length (with_front c ps)
    twice [] = refl
    twice (p ∷ ps) = refl

one_byte : (b : ℕ) → length (lines_in (b ∷ [])) + 1 ≡ line_after (b ∷ [])
one_byte b =
    elim (b == 10) as (λ t. length (cond t ([] ∷ []) ((b ∷ []) ∷ [])) + 1 ≡ length (cond t (b ∷ []) []) + cond (not t) 2 1) [
      | true ↦ omega arith
      | false ↦ omega arith
    ]

pub lines_end : (text : List ℕ) → length (lines_in text) + 1 ≡ line_after text
lines_end [] = refl
lines_end (b ∷ []) = one_byte b
lines_end (b ∷ c ∷ bs) = by (lines_end (c ∷ bs)) (b == 10) (front_filled b c bs)
  where
    by : length (lines_in (c ∷ bs)) + 1 ≡ line_after (c ∷ bs) → (t : Bool)
        → length (with_front b (lines_in (c ∷ bs))) ≡ length (lines_in (c ∷ bs))
        → length (cond t ([] ∷ lines_in (c ∷ bs)) (with_front b (lines_in (c ∷ bs)))) + 1
        ≡ length (cond t (b ∷ filter (λ x. x == 10) (c ∷ bs)) (filter (λ x. x == 10) (c ∷ bs))) + cond (is_cut_short (c ∷ bs)) 2 1
    by before true same = omega (arith, before)
    by before false same = omega (arith, before, same)
