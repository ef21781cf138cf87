-- The assumptions of a clause, and what propagation then decides.
use Rattle.std.proofs.Common.{◌≡◌, ℕ, ◌<◌, ◌+◌, Bool, true, List, length, ap, sym, ◌∙◌, refl, ◌≤◌, subst, inl, inr, set, take, drop, slice_index_or, [], ◌∷◌, ◌++◌}
use Rattle.std.proofs.lemmas.Bool.{cases_Bool, false≢true}
use Rattle.std.proofs.lemmas.List.{take_more, take_all, take-append-drop, length-set}
use Rattle.std.proofs.lemmas.List.Elements.{All-contains, All-more, All-nil, All-weaker, All-append, Contains-append_left, Contains-append_right, Contains-push, Contains-get_or}
use Rattle.std.specs.Prelude.{ℤ, pos, neg_ℤ}
use Rattle.std.specs.List.{All, Contains}
use Rattle.sat_proof.specs.Closed.{IsQuiet, NoneResists, AreContrary}
use Rattle.sat_proof.specs.Code.{is_false, code_of, IsConsistent, IsMarkedWithin, HasRoom, AreClear}
use Rattle.sat_proof.specs.Status.{literal_at, IsOpen}
use Rattle.sat_proof.specs.Propagation.{IsGrowth, AreRefuted, AreForced, AreAssumed, DoClash}
use Rattle.sat_proof.proofs.Codes.{neg-neg, marked_same, marked_more, marked_cases, consistent_step}

in_more : (literals : List ℤ) (k : ℕ) (l : ℤ) → k < length literals → Contains (take k literals) l → Contains (take (k + 1) literals) l
in_more literals k l lt here = subst (λ xs. Contains xs l) (sym (take_more literals k (pos 0) lt)) (Contains-append_left (take k literals) (literal_at literals k ∷ []) l here)

in_last : (literals : List ℤ) (k : ℕ) → k < length literals → Contains (take (k + 1) literals) (literal_at literals k)
in_last literals k lt = subst (λ xs. Contains xs (literal_at literals k)) (sym (take_more literals k (pos 0) lt)) (Contains-push (take k literals) (literal_at literals k))

pub in_whole : (literals : List ℤ) (k : ℕ) (l : ℤ) → Contains (take k literals) l → Contains literals l
in_whole literals k l here = subst (λ xs. Contains xs l) (take-append-drop k literals) (Contains-append_left (take k literals) (drop k literals) l here)

pub assumed_none : (marks : List Bool) → IsConsistent marks → AreAssumed marks marks []
assumed_none marks apart = record { sized = refl; consistent = apart; grows = λ l on. on; exact = λ l on. inl on; all = All-nil (λ l. is_false marks l ≡ true) }

pub assumed_already : (old now : List Bool) (literals : List ℤ) (k : ℕ) → AreAssumed old now (take k literals) → k < length literals
    → is_false now (literal_at literals k) ≡ true → AreAssumed old now (take (k + 1) literals)
assumed_already old now literals k h lt on = record {
  sized = h.sized;
  consistent = h.consistent;
  grows = h.grows;
  exact = λ l l_on. elim (h.exact l l_on) [ inl a ↦ inl a | inr b ↦ inr (in_more literals k l lt b) ];
  all = All-more (λ l. is_false now l ≡ true) literals k (pos 0) lt h.all on;
}

pub assumed_more : (old now : List Bool) (literals : List ℤ) (k : ℕ) → AreAssumed old now (take k literals) → k < length literals
    → HasRoom (length now) (literal_at literals k) → IsOpen now (literal_at literals k)
    → AreAssumed old (set now (code_of (literal_at literals k)) true) (take (k + 1) literals)
assumed_more old now literals k h lt room off =
    let l : ℤ = literal_at literals k in
    let new : List Bool = set now (code_of l) true in
    record {
      sized = length-set now (code_of l) true ∙ h.sized;
      consistent = consistent_step now l h.consistent room off.1;
      grows = λ m on. marked_more now l m room.own (h.grows m on);
      exact = λ m on. elim (marked_cases now l m room.own on) [
        | inl a ↦ elim (h.exact m a) [ inl x ↦ inl x | inr y ↦ inr (in_more literals k m lt y) ]
        | inr e ↦ inr (subst (Contains (take (k + 1) literals)) (sym e) (in_last literals k lt))
      ];
      all = All-more (λ m. is_false new m ≡ true) literals k (pos 0) lt
          (All-weaker (λ m. is_false now m ≡ true) (λ m. is_false new m ≡ true) (λ m on. marked_more now l m room.own on) (take k literals) h.all)
          (marked_same now l room.own);
    }

pub clash_at : (old now : List Bool) (literals : List ℤ) (k : ℕ) → AreAssumed old now (take k literals) → k < length literals
    → is_false now (neg_ℤ (literal_at literals k)) ≡ true → DoClash old literals
clash_at old now literals k h lt on =
    let l : ℤ = literal_at literals k in
    (l, Contains-get_or literals k (pos 0) lt, elim (h.exact (neg_ℤ l) on) [ inl a ↦ inl a | inr b ↦ inr (in_whole literals k (neg_ℤ l) b) ])

pub assumed_all : (old now : List Bool) (literals : List ℤ) (k : ℕ) → length literals ≤ k → AreAssumed old now (take k literals) → AreAssumed old now literals
assumed_all old now literals k le h = subst (AreAssumed old now) (take_all k literals le) h

-- nothing is forced where nothing is marked
pub forced_clear : (marks : List Bool) (clauses : List (List ℤ)) → AreClear marks → AreForced marks clauses
forced_clear marks clauses clear f quiet l on = absurd (false≢true (sym (clear (code_of l)) ∙ on))

pub within_forced : (marks : List Bool) (clauses : List (List ℤ)) → AreForced marks clauses → (f : ℤ → Bool) → All (IsQuiet f) clauses → IsMarkedWithin marks f
within_forced marks clauses forced f quiet l on = (forced f quiet l on).0

pub forced_more : (old new : List Bool) (clauses : List (List ℤ)) → AreForced old clauses → IsGrowth old new clauses → AreForced new clauses
forced_more old new clauses forced g f quiet l on = (
  g.within f quiet (within_forced old clauses forced f quiet) l on,
  (λ no. elim (cases_Bool (is_false old l)) [
    | inl a ↦ (forced f quiet l a).1 no
    | inr a ↦ g.forced f quiet (within_forced old clauses forced f quiet) l on a no
  ]),
)

pub contrary_from : (marks : List Bool) (clauses : List (List ℤ)) → AreForced marks clauses → AreRefuted marks clauses → AreContrary clauses
contrary_from marks clauses forced refuted f quiet = refuted f quiet (within_forced marks clauses forced f quiet)

module _ (clauses : List (List ℤ)) (left right : List ℤ) where
  pub clash_left : (old : List Bool) → AreForced old clauses → DoClash old left → NoneResists clauses (left ++ right)
  clash_left old forced (l, here, why) f r = elim why [
    | inl on ↦ (forced f r.quiet (neg_ℤ l) on).1
        (ap f (neg-neg l) ∙ All-contains (λ m. f m ≡ true) (left ++ right) l r.assumed (Contains-append_left left right l here))
    | inr other ↦ All-contains (λ m. Contains (left ++ right) (neg_ℤ m) → ⊥) (left ++ right) l r.apart
        (Contains-append_left left right l here) (Contains-append_left left right (neg_ℤ l) other)
  ]

  pub clash_right : (old mid : List Bool) → AreForced old clauses → AreAssumed old mid left → DoClash mid right → NoneResists clauses (left ++ right)
  clash_right old mid forced a (l, here, why) f r =
      let l_in : Contains (left ++ right) l = Contains-append_right left right l here in
      let opposed : Contains (left ++ right) (neg_ℤ l) → ⊥ = All-contains (λ m. Contains (left ++ right) (neg_ℤ m) → ⊥) (left ++ right) l r.apart l_in in
      elim why [
        | inl on ↦ elim (a.exact (neg_ℤ l) on) [
          | inl x ↦ (forced f r.quiet (neg_ℤ l) x).1 (ap f (neg-neg l) ∙ All-contains (λ m. f m ≡ true) (left ++ right) l r.assumed l_in)
          | inr y ↦ opposed (Contains-append_left left right (neg_ℤ l) y)
        ]
        | inr other ↦ opposed (Contains-append_right left right (neg_ℤ l) other)
      ]

  pub refuted_follows : (old mid new : List Bool) → AreForced old clauses → AreAssumed old mid left → AreAssumed mid new right → AreRefuted new clauses
      → NoneResists clauses (left ++ right)
  refuted_follows old mid new forced a b refuted f r = refuted f r.quiet (λ l on.
      let from : Contains (left ++ right) l → f l ≡ true = λ here. All-contains (λ m. f m ≡ true) (left ++ right) l r.assumed here in
      elim (b.exact l on) [
        | inl x ↦ elim (a.exact l x) [
          | inl y ↦ (forced f r.quiet l y).0
          | inr y ↦ from (Contains-append_left left right l y)
        ]
        | inr x ↦ from (Contains-append_right left right l x)
      ])

  pub rest_resists : (old mid new end : List Bool) → AreAssumed old mid left → AreAssumed mid new right → IsGrowth new end clauses
      → All (IsQuiet (is_false end)) clauses → NoneResists clauses (left ++ right) → ⊥
  rest_resists old mid new end a b g quiet none =
      let all : All (λ l. is_false new l ≡ true) (left ++ right) = All-append (λ l. is_false new l ≡ true) left right
      (All-weaker (λ l. is_false mid l ≡ true) (λ l. is_false new l ≡ true) (λ l on. b.grows l on) left a.all) b.all in
      none (is_false end) (record {
        assumed = All-weaker (λ l. is_false new l ≡ true) (λ l. is_false end l ≡ true) (λ l on. g.grows l on) (left ++ right) all;
        apart = λ k d lt other. b.consistent (slice_index_or (left ++ right) k d) (all k d lt)
            (All-contains (λ l. is_false new l ≡ true) (left ++ right) (neg_ℤ (slice_index_or (left ++ right) k d)) all other);
        quiet = quiet;
      })
