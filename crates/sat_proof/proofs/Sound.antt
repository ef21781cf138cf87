-- A formula with a log that refutes it has no model.
use Rattle.std.proofs.Common.{◌≡◌, ◌≢◌, ℕ, ◌<◌, ◌≤◌, Bool, true, false, not, List, [], length, sym, ap, refl, subst, ◌∙◌, inl, inr, zero, suc, take, slice_index_or, arith, add-one}
use Rattle.std.proofs.lemmas.Bool.{false≢true, not-false}
use Rattle.std.proofs.lemmas.List.Elements.{All-contains, All-weaker, All-append, All-more, All-nil, All-get_or}
use Rattle.std.specs.Prelude.{ℤ, pos, negsuc, neg_ℤ}
use Rattle.std.specs.List.{All, Contains}
use Rattle.sat_proof.specs.Assignment.{value_of, IsMet, HasNoModel, HasNoZero, assigned}
use Rattle.sat_proof.specs.Follows.{Follows}
use Rattle.sat_proof.specs.Log.{Refutes, DoesFollow, clause_at, before, IsBadLine, IsFirstBad, inside, ending, AreFresh, IsStaleLine}
use Rattle.sat_proof.proofs.Codes.{neg-neg}
use Rattle.sat_proof.proofs.Deciding.{find_or_none}
use Rattle.sat_proof.proofs.ClosedSets.{sound, none_resists}

module _ (v : ℕ → Bool) where
  apart : (l : ℤ) → value_of v (neg_ℤ l) ≡ true → value_of v (neg_ℤ (neg_ℤ l)) ≡ true → ⊥
  apart (pos zero) a b = false≢true a
  apart (pos (suc n)) a b = false≢true (sym (ap not b) ∙ a)
  apart (negsuc n) a b = false≢true (sym (ap not a) ∙ b)

  total : (l : ℤ) → l ≢ pos 0 → value_of v l ≡ false → value_of v (neg_ℤ l) ≡ true
  total (pos zero) ne e = absurd (ne refl)
  total (pos (suc n)) ne e = ap not e
  total (negsuc n) ne e = not-false (v n) e

  met_if_follows : (clauses : List (List ℤ)) (c : List ℤ) → Follows clauses c → All (IsMet v) clauses → HasNoZero c → IsMet v c
  met_if_follows clauses c follows model no_zero = elim (find_or_none (value_of v) c) [
    | inl met ↦ met
    | inr none ↦ absurd (sound clauses c (λ l. value_of v (neg_ℤ l)) (none_resists clauses c follows) apart
        (All-weaker (IsMet v) (λ d. (l : ℤ) × Contains d l × (value_of v (neg_ℤ (neg_ℤ l)) ≡ true))
        (λ d (l, here, on). (l, here, ap (value_of v) (neg-neg l) ∙ on)) clauses model)
        (λ k d lt. total (slice_index_or c k d) (no_zero k d lt) (none k d lt))
        (λ k d lt other. false≢true (sym (All-contains (λ l. value_of v l ≡ false) c (neg_ℤ (slice_index_or c k d)) none other)
        ∙ total (slice_index_or c k d) (no_zero k d lt) (none k d lt))))
  ]

  -- each clause of the log is true where the query's are
  log_met : (query log : List (List ℤ)) (n : ℕ) → n ≤ length log → ((k : ℕ) → k < n → DoesFollow query log k) → All HasNoZero log → All (IsMet v) query
      → All (IsMet v) (take n log)
  log_met query log zero le each no_zero model = All-nil (IsMet v)
  log_met query log (suc n) le each no_zero model =
      let rest : All (IsMet v) (take n log) = log_met query log n (omega arith) (λ k lt. each k (omega arith)) no_zero model in
      let this : IsMet v (clause_at log n) = met_if_follows (before query log n) (clause_at log n) (each n (omega arith))
      (All-append (IsMet v) query (take n log) model rest) (All-get_or HasNoZero log n [] (omega arith) no_zero) in
      subst (λ (m : ℕ). All (IsMet v) (take m log)) (add-one n) (All-more (IsMet v) log n [] (omega arith) rest this)

-- no assignment makes each clause of a refuted query true
never_met : (query log : List (List ℤ)) → Refutes query log → All HasNoZero log → (v : ℕ → Bool) → All (IsMet v) query → ⊥
never_met query log r no_zero v model =
    let (n, len, last) = r.ends in
    let all : All (IsMet v) (take n log) = log_met v query log n (omega arith) (λ k lt. r.each k (omega arith)) no_zero model in
    let this : IsMet v (clause_at log n) = met_if_follows v (before query log n) (clause_at log n) (r.each n (omega arith))
    (All-append (IsMet v) query (take n log) model all) (All-get_or HasNoZero log n [] (omega arith) no_zero) in
    let (l, (k, lt, e), on) = subst (IsMet v) last this in absurd (omega arith)

pub no_model : (vars : ℕ) (query log : List (List ℤ)) → Refutes query log → All HasNoZero log → HasNoModel vars query
no_model vars query log r no_zero values model = never_met query log r no_zero (assigned values) model.met

-- a log with a bad line doesn't keep the rules
broken : (Keeps : ℕ → Type 0) (count : ℕ) (End : Type 0) (line : ℕ) → IsFirstBad Keeps count End line → ((k : ℕ) → k < count → Keeps k) → End → ⊥
broken Keeps count End line (inside k e lt earlier here) all end = here (all k lt)
broken Keeps count End line (ending e all here) rest end = here end

pub bad_not_refutes : (query log : List (List ℤ)) (line : ℕ) → IsBadLine query log line → Refutes query log → ⊥
bad_not_refutes query log line bad r = broken (DoesFollow query log) (length log) _ line bad r.each r.ends

pub stale_not_fresh : (query log : List (List ℤ)) (limit line : ℕ) → IsStaleLine query log limit line → AreFresh query log → length log ≡ limit → ⊥
stale_not_fresh query log limit line bad fresh count = broken _ (length log) (length log ≡ limit) line bad fresh count
