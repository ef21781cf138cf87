-- Clauses, unit clauses and a denial fit the variables that each of them fits.
use Rattle.std.proofs.Common.{◌≡◌, ℕ, zero, suc, ◌≤◌, List, [], ◌∷◌, ◌++◌, drop, map, refl, sym, arith, subst, ⊎_elim, Contains}
use Rattle.std.specs.Prelude.{ℤ, nat_abs}
use Rattle.std.specs.List.{All}
use Rattle.std.proofs.lemmas.List.Elements.{All-contains, Contains-append_cases}
use Rattle.sat_proof.specs.Log.{Fit}
use Rattle.sat_proof.proofs.ClosedSets.{all_from}
use Rattle.decide_cnf.specs.Literals.{IsLiteral}
use Rattle.cert_condition.proofs.ApartLists.{only_one}

in_ones : (units : List ℤ) (clause : List ℤ) → Contains (map (λ l. l ∷ []) units) clause
    → (u : ℤ) × Contains units u × (clause ≡ u ∷ [])
in_ones [] clause at = absurd (let less = at.1 in omega (arith, less))
in_ones (u ∷ units) clause (zero, less, is) = (u, (0, omega arith, refl), sym is)
in_ones (u ∷ units) clause (suc k, less, is) =
    let rest = in_ones units clause (k, omega (arith, less), is) in
    (rest.0, (suc rest.1.0, (let low = rest.1.1 in omega (arith, low)), rest.1.2), rest.2)

one_fits : (vars : ℕ) (u : ℤ) → IsLiteral vars u → All (λ l. nat_abs l ≤ vars) (u ∷ [])
one_fits vars u is = all_from (λ l. nat_abs l ≤ vars) (u ∷ []) (λ l inside.
    subst (λ i. nat_abs i ≤ vars) (sym (only_one l u inside)) is.few)

ones_fit : (vars : ℕ) (units : List ℤ) → All (IsLiteral vars) units → Fit vars (map (λ l. l ∷ []) units)
ones_fit vars units all = all_from (λ c. All (λ l. nat_abs l ≤ vars) c) (map (λ l. l ∷ []) units) (λ clause at.
    (let one = in_ones units clause at in
    subst (λ c. All (λ l. nat_abs l ≤ vars) c) (sym one.2)
    (one_fits vars one.0 (All-contains (IsLiteral vars) units one.0 all one.1))))

all_both : {A : Type 0} (P : A → Type 0) (xs ys : List A) → All P xs → All P ys → All P (xs ++ ys)
all_both P xs ys first second = all_from P (xs ++ ys) (λ x at.
    ⊎_elim (λ (h : Contains xs x). All-contains P xs x first h) (λ (h : Contains ys x). All-contains P ys x second h)
    (Contains-append_cases xs ys x at))

all_behind : {A : Type 0} (P : A → Type 0) (xs : List A) → All P xs → All P (drop 1 xs)
all_behind P [] all k d less = absurd (omega (arith, less))
all_behind P (x ∷ xs) all k d less = all (suc k) d (omega (arith, less))

pub assembled_fit : (vars : ℕ) (clauses : List (List ℤ)) (units : List ℤ) (denial : ℤ) → Fit vars clauses
    → All (IsLiteral vars) units → IsLiteral vars denial
    → Fit vars ((clauses ++ map (λ l. l ∷ []) (drop 1 units)) ++ (denial ∷ []) ∷ [])
assembled_fit vars clauses units denial fit all last =
    all_both (λ c. All (λ l. nat_abs l ≤ vars) c) (clauses ++ map (λ l. l ∷ []) (drop 1 units)) ((denial ∷ []) ∷ [])
    (all_both (λ c. All (λ l. nat_abs l ≤ vars) c) clauses (map (λ l. l ∷ []) (drop 1 units)) fit
    (ones_fit vars (drop 1 units) (all_behind (IsLiteral vars) units all)))
    (all_from (λ c. All (λ l. nat_abs l ≤ vars) c) ((denial ∷ []) ∷ []) (λ clause at.
    subst (λ c. All (λ l. nat_abs l ≤ vars) c) (sym (only_one clause (denial ∷ []) at)) (one_fits vars denial last)))
