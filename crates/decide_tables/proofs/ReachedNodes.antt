-- Nodes that wait, and what bounds them.
use Rattle.std.proofs.Common.{◌≡◌, ℕ, suc, ◌<◌, ◌≤◌, ◌==◌, max, true, List, [], ◌∷◌, ◌++◌, refl, sym, ◌∙◌, arith, ⊎_elim}
use Rattle.std.proofs.lemmas.Bool.{eq-eqb, eqb-true, or_cases}
use Rattle.std.specs.List.{AllByRecursion}
use Rattle.law_model.proofs.PlacesWhere.{all_among, among_all, or_left}
use Rattle.law_model.specs.Places.{among}
use Rattle.decide_graph.specs.Reached.{Adds, TakesGreatest}

-- The number after the greatest.
abbrev pub end_of : List ℕ → ℕ
end_of [] = 0
end_of (x ∷ xs) = max (suc x) (end_of xs)

pub end_up : (xs : List ℕ) (n : ℕ) → AllByRecursion (λ k. k < n) xs → end_of xs ≤ n
end_up [] n all = omega arith
end_up (x ∷ xs) n all = (let first = all.0 in let rest = end_up xs n all.1 in omega (arith, first, rest))

all_end : (xs : List ℕ) → AllByRecursion (λ k. k < end_of xs) xs
all_end xs = up xs (end_of xs) (omega arith)
  where
    up : (xs : List ℕ) (n : ℕ) → end_of xs ≤ n → AllByRecursion (λ k. k < n) xs
    up [] n low = tt
    up (x ∷ xs) n low = (omega (arith, low), up xs n (omega (arith, low)))

pub taken_among : (old new : List ℕ) (place : ℕ) → TakesGreatest old place new → among old place ≡ true
taken_among old new place takes = takes.parts place ∙ or_left (place == place) (among new place) (eq-eqb place place refl)

pub taken_low : (old new : List ℕ) (place n : ℕ) → TakesGreatest old place new → AllByRecursion (λ k. k < n) old → place < n
taken_low old new place n takes all = all_among (λ k. k < n) old place all (taken_among old new place takes)

pub taken_below_end : (old new : List ℕ) (place : ℕ) → TakesGreatest old place new → place < end_of old
taken_below_end old new place takes = taken_low old new place (end_of old) takes (all_end old)

pub wider : (xs : List ℕ) (m n : ℕ) → m ≤ n → AllByRecursion (λ k. k < m) xs → AllByRecursion (λ k. k < n) xs
wider [] m n up all = tt
wider (x ∷ xs) m n up all = (let first = all.0 in omega (arith, first, up), wider xs m n up all.1)

-- A place that comes in.
pub added_below : (old new : List ℕ) (place n : ℕ) → Adds old place new → place < n → AllByRecursion (λ k. k < n) old
    → AllByRecursion (λ k. k < n) new
added_below old new place n adds less all = among_all (λ k. k < n) new (λ k at.
    ⊎_elim (λ (same : (place == k) ≡ true). (let e = eqb-true place k same in omega (arith, e, less)))
    (λ (was : among old k ≡ true). all_among (λ k. k < n) old k all was)
    (or_cases (place == k) (among old k) (sym (adds k) ∙ at)))

pub push_all : (P : ℕ → Type 0) (xs : List ℕ) (x : ℕ) → AllByRecursion P xs → P x → AllByRecursion P (xs ++ x ∷ [])
push_all P [] x all is = (is, tt)
push_all P (y ∷ ys) x all is = (all.0, push_all P ys x all.1 is)
