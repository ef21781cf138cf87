-- The steps of a log, with a change or a step more.
use Rattle.std.proofs.Common.{◌≡◌, ℕ, zero, suc, ◌+◌, ◌-◌, ◌<◌, ◌≤◌, List, [], ◌∷◌, ◌++◌, length, map, drop, slice_index, slice_index_or, refl, ap, ◌∙◌, arith, ⊎_elim}
use Rattle.std.specs.List.{range_with_len, slice_range}
use Rattle.std.proofs.lemmas.Bool.{cases_lt}
use Rattle.std.proofs.lemmas.List.{drop-append-le, get_or_append_left, get_or_push, length-drop, length_push, take-append-le}
use Rattle.std.proofs.lemmas.List.FromFn.{get_or-map-range_with_len, length-map-range_with_len, map-range_with_len_more}
use Rattle.base_ledger.specs.Ledger.{AreBounds, LedgerStep, no_step, step_between, steps_between}
use Rattle.base_ledger.specs.declared.change.Change.{Change}

same_map : {X : Type 0} (f g : ℕ → X) (a n : ℕ) → ((k : ℕ) → a ≤ k → k < a + n → f k ≡ g k) → map f (range_with_len a n) ≡ map g (range_with_len a n)
same_map f g a zero same = refl
same_map f g a (suc n) same =
    let first : f a ≡ g a = same a (omega arith) (omega arith) in
    let rest = same_map f g (a + 1) n (λ k low high. same k (omega (arith, low)) (omega (arith, high))) in
    cc

-- A range of a list stays with more behind it.
range_stays : {X : Type 0} (xs ys : List X) (a b : ℕ) → b ≤ length xs → slice_range (xs ++ ys) a b ≡ slice_range xs a b
range_stays xs ys a b within = ⊎_elim (λ less. inside less) (λ more. outside more) (cases_lt b a)
  where
    inside : b < a → slice_range (xs ++ ys) a b ≡ slice_range xs a b
    inside less = let none : b - a ≡ 0 = omega (arith, less) in rw none refl

    outside : a ≤ b → slice_range (xs ++ ys) a b ≡ slice_range xs a b
    outside more =
        let low : a ≤ length xs = omega (arith, more, within) in
        let long = length-drop a xs in
        rw (drop-append-le a xs ys low) (take-append-le (b - a) (drop a xs) ys (omega (arith, long, more, within)))

between_stays : (blank : List ℕ) (changes more : List Change) (a b : ℕ) → b ≤ length changes → step_between blank (changes ++ more) a b ≡ step_between blank changes a b
between_stays blank changes more a b within =
    let rows = take-append-le b changes more within in
    let ranges = range_stays changes more a b within in
    cc

-- More changes leave the steps that end before them.
pub steps_stay : (blank : List ℕ) (changes more : List Change) (starts : List ℕ) → AreBounds changes starts → steps_between blank (changes ++ more) starts ≡ steps_between blank changes starts
unfolding steps_between
steps_stay blank changes more starts bounds =
    same_map (λ k. step_between blank (changes ++ more) (slice_index starts k) (slice_index starts (k + 1))) (λ k. step_between blank changes (slice_index starts k) (slice_index starts (k + 1))) 0 (length starts - 1) (λ k low high. between_stays blank changes more (slice_index starts k) (slice_index starts (k + 1)) (bounds.within (k + 1) (omega (arith, high))))

-- One bound more is one step more.
pub steps_more : (blank : List ℕ) (changes : List Change) (starts : List ℕ) (end : ℕ) → 0 < length starts → steps_between blank changes (starts ++ end ∷ []) ≡ steps_between blank changes starts ++ step_between blank changes (slice_index starts (length starts - 1)) end ∷ []
unfolding steps_between
steps_more blank changes starts end some =
    let long : length (starts ++ end ∷ []) - 1 ≡ length starts - 1 + 1 = (let l = length_push starts end in omega (arith, l, some)) in
    let more = map-range_with_len_more new 0 (length starts - 1) (length starts - 1) (omega arith) in
    let same = same_map new old 0 (length starts - 1) (λ k low high. stays k (omega (arith, high))) in
    ap (λ n. map new (range_with_len 0 n)) long ∙ more ∙ ap (λ steps. steps ++ new (length starts - 1) ∷ []) same ∙ ap (λ step. map old (range_with_len 0 (length starts - 1)) ++ step ∷ []) last
  where
    new : ℕ → LedgerStep
    new k = step_between blank changes (slice_index (starts ++ end ∷ []) k) (slice_index (starts ++ end ∷ []) (k + 1))

    old : ℕ → LedgerStep
    old k = step_between blank changes (slice_index starts k) (slice_index starts (k + 1))

    stays : (k : ℕ) → k + 1 < length starts → new k ≡ old k
    stays k less =
        let a = get_or_append_left starts (end ∷ []) 0 k (omega (arith, less)) in
        let b = get_or_append_left starts (end ∷ []) 0 (k + 1) less in
        cc

    last : new (length starts - 1) ≡ step_between blank changes (slice_index starts (length starts - 1)) end
    last =
        let a = get_or_append_left starts (end ∷ []) 0 (length starts - 1) (omega (arith, some)) in
        let b = get_or_push starts end 0 (length starts - 1 + 1) (omega (arith, some)) in
        cc

pub steps_long : (blank : List ℕ) (changes : List Change) (starts : List ℕ) → length (steps_between blank changes starts) ≡ length starts - 1
unfolding steps_between
steps_long blank changes starts = length-map-range_with_len (λ k. step_between blank changes (slice_index starts k) (slice_index starts (k + 1))) 0 (length starts - 1)

pub step_there : (blank : List ℕ) (changes : List Change) (starts : List ℕ) (k : ℕ) → k + 1 < length starts → slice_index_or (steps_between blank changes starts) k no_step ≡ step_between blank changes (slice_index starts k) (slice_index starts (k + 1))
unfolding steps_between
step_there blank changes starts k less = get_or-map-range_with_len (λ j. step_between blank changes (slice_index starts j) (slice_index starts (j + 1))) 0 (length starts - 1) k k no_step (omega (arith, less)) (omega arith)
