-- A log that grows by a clause, and models.
use Rattle.std.proofs.Common.{◌≡◌, ◌≢◌, ℕ, zero, suc, ◌<◌, ◌≤◌, ◌+◌, ◌-◌, ◌*◌, Bool, true, false, not, List, [], ◌∷◌, ◌++◌, length, ap, sym, refl, ◌∙◌, inl, inr, slice_index_or, arith, subst}
use Rattle.std.proofs.lemmas.Bool.{cases_eq, false≢true, not-true, not-false}
use Rattle.std.proofs.lemmas.List.{take_all, take-append-le, get_or_append_left, length-append}
use Rattle.std.proofs.lemmas.List.Elements.{All-contains, All-weaker, All-append, All-cons, All-nil, Contains-append_left}
use Rattle.std.proofs.Math.Seq.{get_or-append_seam}
use Rattle.std.specs.Prelude.{ℤ, pos, negsuc, neg_ℤ, nat_abs}
use Rattle.std.specs.List.{All}
use Rattle.sat_proof.specs.Assignment.{HasNoZero, IsMet, IsModel, assigned, value_of}
use Rattle.sat_proof.specs.Closed.{IsQuiet, AreContrary}
use Rattle.sat_proof.specs.Code.{is_false, code_of, HasRoom, HaveRoom}
use Rattle.sat_proof.specs.Follows.{Follows}
use Rattle.sat_proof.specs.Guard.{GoesOnServing, Watches}
use Rattle.sat_proof.specs.Lines.{IsReady}
use Rattle.sat_proof.specs.Log.{before, clause_at, IsFresh, AreFresh, Refutes, DoesFollow, Fit}
use Rattle.sat_proof.specs.Propagation.{IsBase}
use Rattle.sat_proof.specs.Propagator.{ComesBack}
use Rattle.sat_proof.specs.Trail.{HaveMarks}
use Rattle.sat_proof.specs.declared.propagator.Propagator.{Propagator}
use Rattle.sat_proof.proofs.Bases.{follows_contrary}
use Rattle.sat_proof.proofs.Deciding.{find_or_none}
use Rattle.sat_proof.proofs.ClosedSets.{all_from}
use Rattle.sat_search.specs.Decide.{AreValued}

pub before_whole : (query log : List (List ℤ)) → before query log (length log) ≡ query ++ log
before_whole query log = ap (λ (cs : List (List ℤ)). query ++ cs) (take_all (length log) log (omega arith))

pub before_pushed : (query log : List (List ℤ)) (c : List ℤ) (k : ℕ) → k ≤ length log → before query (log ++ c ∷ []) k ≡ before query log k
before_pushed query log c k le = ap (λ (cs : List (List ℤ)). query ++ cs) (take-append-le k log (c ∷ []) le)

clause_before : (log : List (List ℤ)) (c : List ℤ) (k : ℕ) → k < length log → clause_at (log ++ c ∷ []) k ≡ clause_at log k
clause_before log c k lt = get_or_append_left log (c ∷ []) [] k lt

clause_last : (log : List (List ℤ)) (c : List ℤ) → clause_at (log ++ c ∷ []) (length log) ≡ c
clause_last log c = get_or-append_seam log c [] []

-- the log stays fresh
pub fresh_pushed : (query log : List (List ℤ)) (c : List ℤ) → AreFresh query log → IsFresh (query ++ log) c → AreFresh query (log ++ c ∷ [])
fresh_pushed query log c fresh here k lt = elim (cases_eq k (length log)) [
  | inl e ↦ subst (λ i. IsFresh (before query (log ++ c ∷ []) i) (clause_at (log ++ c ∷ []) i)) (sym e)
      (subst (λ (d : List ℤ). IsFresh (before query (log ++ c ∷ []) (length log)) d) (sym (clause_last log c))
      (subst (λ (cs : List (List ℤ)). IsFresh cs c) (sym (before_pushed query log c (length log) (omega arith) ∙ before_whole query log)) here))
  | inr ne ↦
      let below : k < length log = omega (arith, length-append log (c ∷ [])) in
      subst (λ (d : List ℤ). IsFresh (before query (log ++ c ∷ []) k) d) (sym (clause_before log c k below))
      (subst (λ (cs : List (List ℤ)). IsFresh cs (clause_at log k)) (sym (before_pushed query log c k (omega arith))) (fresh k below))
]

-- the empty clause ends it
pub refutes_pushed : (query log : List (List ℤ)) → AreFresh query log → AreContrary (before query log (length log)) → Refutes query (log ++ [] ∷ [])
refutes_pushed query log fresh contrary = record {
  each = λ k lt. elim (cases_eq k (length log)) [
    | inl e ↦ subst (DoesFollow query (log ++ [] ∷ [])) (sym e)
        (follows_contrary (before query (log ++ [] ∷ []) (length log)) (clause_at (log ++ [] ∷ []) (length log))
        (subst AreContrary (sym (before_pushed query log [] (length log) (omega arith))) contrary))
    | inr ne ↦
        let below : k < length log = omega (arith, length-append log ([] ∷ [])) in
        subst (λ (d : List ℤ). Follows (before query (log ++ [] ∷ []) k) d) (sym (clause_before log [] k below))
        (subst (λ (cs : List (List ℤ)). Follows cs (clause_at log k)) (sym (before_pushed query log [] k (omega arith))) (fresh k below).follows)
  ];
  ends = (length log, length-append log ([] ∷ []), clause_last log []);
}

module _ (marks values : List Bool) (vars : ℕ) (size : length marks ≡ 2 * vars + 2) (valued : AreValued marks vars)
    (same : (n : ℕ) → n < vars → slice_index_or values n false ≡ slice_index_or marks (2 * n + 3) false) where
  -- a literal that isn't false is true
  true_if_not_false : (l : ℤ) → l ≢ pos 0 → code_of l < length marks → is_false marks l ≡ false → value_of (assigned values) l ≡ true
  true_if_not_false (pos zero) ne lt off = absurd (ne refl)
  true_if_not_false (pos (suc n)) ne lt off =
      let n_lt : n < vars = omega arith in
      let code : 2 * n + 2 ≡ 2 * suc n = omega arith in
      same n n_lt ∙ elim (valued n n_lt) [
        | inl a ↦ absurd (false≢true (sym off ∙ sym (ap (λ i. slice_index_or marks i false) code) ∙ a))
        | inr b ↦ b
      ]
  true_if_not_false (negsuc n) ne lt off =
      let n_lt : n < vars = omega arith in
      let code : 2 * n + 3 ≡ 2 * (n + 1) + 1 = omega arith in
      ap not (same n n_lt ∙ ap (λ i. slice_index_or marks i false) code ∙ off)

  met_if_quiet : (c : List ℤ) → HasNoZero c → All (λ l. (code_of l < length marks) × (code_of (neg_ℤ l) < length marks)) c → IsQuiet (is_false marks) c → IsMet (assigned values) c
  met_if_quiet c no_zero room quiet = elim (find_or_none (λ l. not (is_false marks l)) c) [
    | inl some ↦ let (l, here, on) = some in (
      l,
      here,
      true_if_not_false l (All-contains (λ m. m ≢ pos 0) c l no_zero here)
          (All-contains (λ m. (code_of m < length marks) × (code_of (neg_ℤ m) < length marks)) c l room here).0 (not-true (is_false marks l) on),
    )
    | inr none ↦ absurd (quiet.met (All-weaker (λ l. not (is_false marks l) ≡ false) (λ l. is_false marks l ≡ true) (λ l e. not-false (is_false marks l) e) c none))
  ]

  -- where every variable has a value and no clause is left to propagate, the values are a model
  pub model_if_settled : (clauses : List (List ℤ)) → All HasNoZero clauses → HaveRoom (length marks) clauses → All (IsQuiet (is_false marks)) clauses → length values ≡ vars
      → IsModel vars clauses values
  model_if_settled clauses no_zero room quiet count = record {
    count = count;
    met = all_from (IsMet (assigned values)) clauses (λ c here. met_if_quiet c (All-contains HasNoZero clauses c no_zero here) (All-contains (λ d. All (λ l. (code_of l < length marks) × (code_of (neg_ℤ l) < length marks)) d) clauses c room here)
        (All-contains (IsQuiet (is_false marks)) clauses c quiet here));
  }

room_of : (n : ℕ) (c : List ℤ) → All (HasRoom n) c → All (λ l. (code_of l < n) × (code_of (neg_ℤ l) < n)) c
room_of n c all = All-weaker (HasRoom n) (λ l. (code_of l < n) × (code_of (neg_ℤ l) < n)) (λ l r. (r.own, r.other)) c all

pub room_logged : (n : ℕ) (log : List (List ℤ)) (c : List ℤ) → HaveRoom n log → All (HasRoom n) c → HaveRoom n (log ++ c ∷ [])
room_logged n log c all room = All-append (All (λ l. (code_of l < n) × (code_of (neg_ℤ l) < n))) log (c ∷ []) all
    (All-cons (All (λ l. (code_of l < n) × (code_of (neg_ℤ l) < n))) c [] (room_of n c room) (All-nil (All (λ l. (code_of l < n) × (code_of (neg_ℤ l) < n)))))

-- literals with room are those of the variables
within : (vars n : ℕ) (l : ℤ) → n ≡ 2 * vars + 2 → code_of l < n → nat_abs l ≤ vars
within vars n (pos k) e lt = omega arith
within vars n (negsuc k) e lt = omega arith

pub fit_with_room : (vars n : ℕ) (log : List (List ℤ)) → n ≡ 2 * vars + 2 → HaveRoom n log → Fit vars log
fit_with_room vars n log e room = All-weaker (All (λ l. (code_of l < n) × (code_of (neg_ℤ l) < n))) (All (λ l. nat_abs l ≤ vars))
    (λ c all. All-weaker (λ l. (code_of l < n) × (code_of (neg_ℤ l) < n)) (λ l. nat_abs l ≤ vars) (λ l r. within vars n l e r.0) c all) log room

pub quiet_query : (f : ℤ → Bool) (query log : List (List ℤ)) → All (IsQuiet f) (query ++ log) → All (IsQuiet f) query
quiet_query f query log quiet = all_from (IsQuiet f) query (λ c here. All-contains (IsQuiet f) (query ++ log) c quiet (Contains-append_left query log c here))

-- what stands before the clause that was pushed
pub before_last : (query log new : List (List ℤ)) (c : List ℤ) (k : ℕ) → new ≡ log ++ c ∷ [] → k ≡ length new → before query new (k - 1) ≡ query ++ log
before_last query log new c k is e =
    let at : k - 1 ≡ length log = omega (arith, ap length is, length-append log (c ∷ [])) in
    ap (before query new) at ∙ ap (λ (cs : List (List ℤ)). before query cs (length log)) is ∙ before_pushed query log c (length log) (omega arith) ∙ before_whole query log

pub length_logged : (log new : List (List ℤ)) (c : List ℤ) → new ≡ log ++ c ∷ [] → length new ≡ length log + 1
length_logged log new c is = omega (arith, ap length is, length-append log (c ∷ []))

-- with wider watches too the propagator is at its base
pub ready_next : (old mid new : Propagator) (clauses after : List (List ℤ)) → ComesBack old mid clauses → new.trail ≡ mid.trail → GoesOnServing mid.watch new.watch → clauses ≡ after
    → IsReady new false after
ready_next old mid new clauses after back trail serving same = subst (IsReady new false) same (record {
  contrary = λ e. absurd (false≢true e);
  base = λ _. record {
    room = subst (λ t. HaveMarks t clauses) (sym trail) back.base.room;
    base = subst (λ t. IsBase t clauses) (sym trail) back.base.base;
    watches = subst (λ t. Watches new.watch t.marks.items clauses) (sym trail) (serving mid.trail.marks.items clauses back.base.watches);
  };
})
