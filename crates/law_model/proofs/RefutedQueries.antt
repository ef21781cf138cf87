-- No assignment makes each clause of a refuted query true.
use Rattle.std.proofs.Common.{◌≡◌, ℕ, zero, suc, ◌+◌, ◌<◌, ◌≤◌, Bool, false, not, List, [], ◌∷◌, ◌++◌, length, refl, sym, ap, ◌∙◌, arith, length-append, subst, ⊎_elim, Contains, slice_index_or}
use Rattle.std.specs.Prelude.{ℤ, pos, negsuc, nat_abs}
use Rattle.std.specs.List.{All}
use Rattle.std.proofs.lemmas.Bool.{cases_eq}
use Rattle.std.proofs.Math.ListN.{get_or-append}
use Rattle.std.proofs.Math.Seq.{get_or-append_seam}
use Rattle.sat_proof.specs.Assignment.{value_of, IsMet, HasNoZero, assigned}
use Rattle.sat_proof.specs.Log.{Refutes}
use Rattle.sat_proof.proofs.ClosedSets.{all_from}
use Rattle.sat_proof.proofs.Sound.{no_model}

-- The first n values of an assignment as a list.
pub values : (ℕ → Bool) → ℕ → List Bool
values v zero = []
values v (suc n) = values v n ++ v n ∷ []

pub values_length : (v : ℕ → Bool) (n : ℕ) → length (values v n) ≡ n
unfolding values
values_length v zero = refl
values_length v (suc n) = let ih = values_length v n in simp length-append (omega arith)

values_at : (v : ℕ → Bool) (n k : ℕ) → k < n → slice_index_or (values v n) k false ≡ v k
unfolding values
values_at v zero k less = absurd (omega arith)
values_at v (suc n) k less =
    let long = values_length v n in
    ⊎_elim (λ (here : k ≡ n). subst (λ i. slice_index_or (values v n ++ v n ∷ []) i false ≡ v i) (sym here) (last long))
    (λ (other : k ≡ n → ⊥). get_or-append (values v n) (v n ∷ []) false k (omega (arith, long, less, other))
    ∙ values_at v n k (omega (arith, less, other))) (cases_eq k n)
  where
    last : length (values v n) ≡ n → slice_index_or (values v n ++ v n ∷ []) n false ≡ v n
    last long = subst (λ i. slice_index_or (values v n ++ v n ∷ []) i false ≡ v n) long
        (get_or-append_seam (values v n) (v n) [] false)

pub same_value : (v : ℕ → Bool) (n : ℕ) (l : ℤ) → nat_abs l ≤ n → value_of (assigned (values v n)) l ≡ value_of v l
same_value v n (pos zero) low = refl
same_value v n (pos (suc k)) low = values_at v n k (omega (arith, low))
same_value v n (negsuc k) low = ap not (values_at v n k (omega (arith, low)))

-- A number that no variable of a clause, or of clauses, is over.
clause_bound : List ℤ → ℕ
clause_bound [] = 0
clause_bound (l ∷ clause) = nat_abs l + clause_bound clause

query_bound : List (List ℤ) → ℕ
query_bound [] = 0
query_bound (clause ∷ query) = clause_bound clause + query_bound query

literal_low : (clause : List ℤ) (l : ℤ) → Contains clause l → nat_abs l ≤ clause_bound clause
unfolding clause_bound
literal_low [] l at = absurd (let less = at.1 in omega (arith, less))
literal_low (m ∷ clause) l (zero, less, is) = let same = ap nat_abs is in omega (arith, same)
literal_low (m ∷ clause) l (suc k, less, is) = let rest = literal_low clause l
    (k, omega (arith, less), is) in omega (arith, rest)

clause_low : (query : List (List ℤ)) (clause : List ℤ) → Contains query clause → clause_bound clause ≤ query_bound query
unfolding query_bound
clause_low [] clause at = absurd (let less = at.1 in omega (arith, less))
clause_low (c ∷ query) clause (zero, less, is) = let same = ap clause_bound is in omega (arith, same)
clause_low (c ∷ query) clause (suc k, less, is) = let rest = clause_low query clause
    (k, omega (arith, less), is) in omega (arith, rest)

pub never_met : (query log : List (List ℤ)) → Refutes query log → All HasNoZero log → (v : ℕ → Bool)
    → ((clause : List ℤ) → Contains query clause → IsMet v clause) → ⊥
never_met query log refutes no_zero v met =
    no_model bound query log refutes no_zero (values v bound)
    (record { count = values_length v bound; met = all_from (IsMet (assigned (values v bound))) query listed })
  where
    bound : ℕ
    bound = query_bound query

    listed : (clause : List ℤ) → Contains query clause → IsMet (assigned (values v bound)) clause
    listed clause at =
        let on = met clause at in (
          on.0,
          on.1,
          same_value v bound on.0 (let low = literal_low clause on.0 on.1 in let up = clause_low query
              clause at in omega (arith, low, up)) ∙ on.2,
        )
