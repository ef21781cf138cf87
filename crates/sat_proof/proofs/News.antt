-- Whether a clause is new, and what that makes of a tight one.
use Rattle.std.proofs.Common.{◌≡◌, ◌≢◌, ℕ, ◌<◌, ◌+◌, Bool, true, List, length, sym, ◌∙◌, subst, inl, inr, take, drop, slice_index_or, ◌++◌, arith, zero, suc, [], below_more}
use Rattle.std.proofs.lemmas.Bool.{false≢true}
use Rattle.std.proofs.lemmas.List.{take_more, take-append-drop}
use Rattle.std.proofs.lemmas.List.Elements.{All-contains, All-weaker, All-contains_itself, All-from_get_or, All-get_or, Contains-append_left, Contains-append_right, Contains-append_cases, Contains-push_cases}
use Rattle.std.specs.Prelude.{ℤ, pos, neg_ℤ}
use Rattle.std.specs.List.{All, Contains}
use Rattle.sat_proof.specs.Closed.{IsFalse, IsQuiet, NoneResists, AreContrary}
use Rattle.sat_proof.specs.Code.{is_false, code_of, AreClear}
use Rattle.sat_proof.specs.Follows.{Follows, without, IsTight}
use Rattle.sat_proof.specs.Fresh.{IsNew, IsStale, IsCovered, IsUncovered, IsUnmatched, AreUncovered}
use Rattle.sat_proof.specs.Index.{IsIndexed, Lists}
use Rattle.sat_proof.specs.Log.{AreSameSet, IsFresh, clause_at}
use Rattle.sat_proof.specs.Status.{literal_at}
use Rattle.sat_proof.specs.Propagation.{AreAssumed, DoClash}
use Rattle.sat_proof.specs.declared.index.Index.{Index}
use Rattle.sat_proof.proofs.Bases.{follows_contrary}
use Rattle.sat_proof.proofs.Deciding.{follows_if_none}
use Rattle.sat_proof.proofs.ClosedSets.{wider}

-- a clause of the list follows
itself_follows : (clauses : List (List ℤ)) (d : List ℤ) → Contains clauses d → NoneResists clauses d
itself_follows clauses d here f r = (All-contains (IsQuiet f) clauses d r.quiet here).met r.assumed

pub in_without : (c : List ℤ) (k : ℕ) (x : ℤ) → k < length c → Contains c x → x ≢ literal_at c k → Contains (without k c) x
in_without c k x lt here ne =
    let split : Contains (take (k + 1) c ++ drop (k + 1) c) x = subst (λ (xs : List ℤ). Contains xs x) (sym (take-append-drop (k + 1) c)) here in
    elim (Contains-append_cases (take (k + 1) c) (drop (k + 1) c) x split) [
      | inl a ↦ elim (Contains-push_cases (take k c) (literal_at c k) x (subst (λ (xs : List ℤ). Contains xs x) (take_more c k (pos 0) lt) a)) [
        | inl b ↦ Contains-append_left (take k c) (drop (k + 1) c) x b
        | inr e ↦ absurd (ne (sym e))
      ]
      | inr b ↦ Contains-append_right (take k c) (drop (k + 1) c) x b
    ]

-- what can't be denied at each index can't be denied at all
not_denied : (P : ℕ → Type 0) (n : ℕ) → ((k : ℕ) → k < n → (P k → ⊥) → ⊥) → (((k : ℕ) → k < n → P k) → ⊥) → ⊥
not_denied P zero each deny = deny (λ k lt. absurd (omega arith))
not_denied P (suc n) each deny = not_denied P n (λ k lt. each k (omega arith)) (λ all. each n (omega arith) (λ here.
    deny (λ k lt. below_more P n all here k (omega arith))))

-- no clause lies within a tight one but for those that equal it
uncovered_if_tight : (clauses : List (List ℤ)) (c d : List ℤ) → IsTight clauses c → Contains clauses d → (AreSameSet c d → ⊥) → All (Contains c) d → ⊥
uncovered_if_tight clauses c d tight here differ within =
    not_denied (λ k. Contains d (literal_at c k)) (length c)
    (λ k lt absent. tight k lt (follows_if_none clauses (without k c) (wider clauses d (without k c)
    (All-weaker (λ x. Contains c x × Contains d x) (Contains (without k c))
    (λ x both. in_without c k x lt both.0 (λ e. absent (subst (Contains d) e both.1))) d
    (λ i y it. (within i y it, All-contains_itself d i y it)))
    (itself_follows clauses d here))))
    (λ all. differ (All-from_get_or (Contains d) c (pos 0) all, within))

pub stale_not_fresh : (clauses : List (List ℤ)) (c : List ℤ) → IsStale clauses c → IsFresh clauses c → ⊥
stale_not_fresh clauses c stale f = elim stale [
  | inl not_apart ↦ not_apart f.no_tautology
  | inr some ↦ let (d, here, within) = some in
      uncovered_if_tight clauses c d f.tight here (All-contains (λ e. AreSameSet c e → ⊥) clauses d f.«new» here) within
]

pub fresh_from : (clauses : List (List ℤ)) (c : List ℤ) → 0 < length c → IsNew clauses c → Follows clauses c → IsTight clauses c → IsFresh clauses c
fresh_from clauses c some n follows tight = record { filled = some; no_tautology = n.no_tautology; «new» = n.different; follows = follows; tight = tight }

-- over clauses that conflict no clause is fresh
pub contrary_not_fresh : (clauses : List (List ℤ)) (c : List ℤ) → AreContrary clauses → IsFresh clauses c → ⊥
contrary_not_fresh clauses c contrary f = f.tight 0 f.filled (follows_contrary clauses (without 0 c) contrary)

-- under the marks of a clause alone, those clauses are false that lie within it
within_if_false : (old new : List Bool) (c d : List ℤ) → AreClear old → AreAssumed old new c → IsFalse (is_false new) d → All (Contains c) d
within_if_false old new c d clear a bad = All-weaker (λ l. is_false new l ≡ true) (Contains c)
    (λ l on. elim (a.exact l on) [ inl x ↦ absurd (false≢true (sym (clear (code_of l)) ∙ x)) | inr y ↦ y ]) d bad

false_if_within : (old new : List Bool) (c d : List ℤ) → AreAssumed old new c → All (Contains c) d → IsFalse (is_false new) d
false_if_within old new c d a within = All-weaker (Contains c) (λ l. is_false new l ≡ true)
    (λ l here. All-contains (λ m. is_false new m ≡ true) c l a.all here) d within

module _ (old new : List Bool) (clauses : List (List ℤ)) (c : List ℤ) (clear : AreClear old) where
  pub clash_stale : DoClash old c → IsStale clauses c
  clash_stale (l, here, why) = inl (λ apart. elim why [
    | inl on ↦ false≢true (sym (clear (code_of (neg_ℤ l))) ∙ on)
    | inr other ↦ All-contains (λ m. Contains c (neg_ℤ m) → ⊥) c l apart here other
  ])

  pub covered_stale : AreAssumed old new c → IsCovered new clauses → IsStale clauses c
  covered_stale a (d, here, bad) = inr (d, here, within_if_false old new c d clear a bad)

  pub unmatched_new : AreAssumed old new c → IsUnmatched new clauses c → IsNew clauses c
  unmatched_new a none = record {
    no_tautology = λ k d lt other. a.consistent (slice_index_or c k d) (a.all k d lt)
        (All-contains (λ l. is_false new l ≡ true) c (neg_ℤ (slice_index_or c k d)) a.all other);
    different = All-weaker (λ d. All (Contains d) c → IsFalse (is_false new) d → ⊥) (λ d. AreSameSet c d → ⊥)
        (λ d not_bad same. not_bad same.0 (false_if_within old new c d a same.1)) clauses none;
  }

-- where no clause is covered, none that holds the literals is
pub uncovered_unmatched : (marks : List Bool) (clauses : List (List ℤ)) (c : List ℤ) → IsUncovered marks clauses → IsUnmatched marks clauses c
uncovered_unmatched marks clauses c none = All-weaker (λ d. IsFalse (is_false marks) d → ⊥) (λ d. All (Contains d) c → IsFalse (is_false marks) d → ⊥)
    (λ d not_bad holds. not_bad) clauses none

-- a clause that holds the literals is in the chain of each of them
pub chain_unmatched : (marks : List Bool) (x : Index) (clauses : List (List ℤ)) (c : List ℤ) (k : ℕ) → IsIndexed x clauses → k < length c
    → AreUncovered marks clauses (λ n. Lists x (code_of (literal_at c k)) n) → IsUnmatched marks clauses c
chain_unmatched marks x clauses c k indexed lt none = All-from_get_or (λ d. All (Contains d) c → IsFalse (is_false marks) d → ⊥) clauses []
    (λ n n_lt holds bad. none n (indexed.listed n (literal_at c k) n_lt (All-get_or (Contains (clause_at clauses n)) c k (pos 0) lt holds)) bad)
