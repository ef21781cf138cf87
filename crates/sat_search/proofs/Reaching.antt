-- What the trail stands for as it grows.
use Rattle.std.proofs.Common.{◌≡◌, ℕ, ◌<◌, ◌+◌, Bool, true, List, [], ◌∷◌, ◌++◌, length, ap, sym, refl, ◌∙◌, ◌⊎◌, inl, inr, set, take, arith, subst, append_assoc}
use Rattle.std.proofs.lemmas.Bool.{cases_Bool}
use Rattle.std.proofs.lemmas.List.{take_more}
use Rattle.std.proofs.lemmas.List.Elements.{All-contains, All-weaker, All-append, All-nil, All-cons, Contains-push, Contains-append_left}
use Rattle.std.specs.Prelude.{ℤ, pos, neg_ℤ}
use Rattle.std.specs.List.{Contains}
use Rattle.sat_proof.specs.Closed.{IsFalse, NoneResists}
use Rattle.sat_proof.specs.Code.{is_false, code_of, HaveRoom, IsMarkedWithin}
use Rattle.sat_proof.specs.Guard.{IsSince, IsPropagating}
use Rattle.sat_proof.specs.Status.{literal_at}
use Rattle.sat_proof.specs.Propagation.{IsGrowth, AreRefuted, IsBase}
use Rattle.sat_proof.specs.Propagator.{HasPropagated, IsAtBase, LeadsBack}
use Rattle.sat_proof.specs.Trail.{held, HaveMarks, StaysOver, IsOver}
use Rattle.sat_proof.specs.Watch.{watched}
use Rattle.sat_proof.specs.declared.propagator.Propagator.{Propagator}
use Rattle.sat_proof.specs.declared.trail.Trail.{Trail}
use Rattle.sat_proof.proofs.Codes.{neg-neg, marked_same, marked_more, marked_cases}
use Rattle.sat_proof.proofs.Guards.{guarded_map}
use Rattle.sat_proof.proofs.Assuming.{in_whole}
use Rattle.sat_proof.proofs.ClosedSets.{all_from, wider}
use Rattle.sat_proof.proofs.Runs.{growth_none}
use Rattle.sat_proof.proofs.Trails.{over_none}
use Rattle.sat_search.specs.Reach.{IsSettled, IsFrom}

pub settled_base : (p : Propagator) (clauses : List (List ℤ)) → IsAtBase p clauses → IsSettled p clauses
settled_base p clauses b = record { room = b.room; quiet = b.base.quiet; read = b.base.read; watches = b.watches }

pub from_base : (t : Trail) (clauses : List (List ℤ)) → IsBase t clauses → IsFrom t.marks.items clauses []
from_base t clauses b = record {
  assumed = All-nil (λ l. held t l ≡ true);
  forced = λ f quiet none l on. ((b.forced f quiet l on).0, inl (b.forced f quiet l on).1);
}

-- a set with the literals of both parts has those of the first
pub left_false : (f : ℤ → Bool) (a b : List ℤ) → IsFalse f (a ++ b) → IsFalse f a
left_false f a b bad = all_from (λ l. f l ≡ true) a (λ l here. All-contains (λ m. f m ≡ true) (a ++ b) l bad (Contains-append_left a b l here))

pub push_false : (f : ℤ → Bool) (a : List ℤ) (l : ℤ) → IsFalse f a → f l ≡ true → IsFalse f (a ++ l ∷ [])
push_false f a l bad on = All-append (λ m. f m ≡ true) a (l ∷ []) bad (All-cons (λ m. f m ≡ true) l [] on (All-nil (λ m. f m ≡ true)))

pub last_false : (f : ℤ → Bool) (a : List ℤ) (l : ℤ) → IsFalse f (a ++ l ∷ []) → f l ≡ true
last_false f a l bad = All-contains (λ m. f m ≡ true) (a ++ l ∷ []) l bad (Contains-push a l)

-- one more literal is taken
pub more_taken : (c literals : List ℤ) (k : ℕ) → k < length literals → (c ++ take k literals) ++ literal_at literals k ∷ [] ≡ c ++ take (k + 1) literals
more_taken c literals k lt = append_assoc c (take k literals) (literal_at literals k ∷ []) ∙ ap (λ (xs : List ℤ). c ++ xs) (sym (take_more literals k (pos 0) lt))

module _ (marks : List Bool) (clauses : List (List ℤ)) (c : List ℤ) (l : ℤ) (h : IsFrom marks clauses c) where
  -- the next literal is true already
  pub conflict_if_true : is_false marks (neg_ℤ l) ≡ true → NoneResists clauses (c ++ l ∷ [])
  conflict_if_true on f r =
      let f_l : f l ≡ true = last_false f c l r.assumed in
      let fact : (f (neg_ℤ l) ≡ true) × ((f (neg_ℤ (neg_ℤ l)) ≡ true → ⊥) ⊎ Contains c (neg_ℤ l)) = h.forced f r.quiet (left_false f c (l ∷ []) r.assumed) (neg_ℤ l) on in
      elim fact.1 [
        | inl never ↦ never (ap f (neg-neg l) ∙ f_l)
        | inr here ↦ All-contains (λ m. Contains (c ++ l ∷ []) (neg_ℤ m) → ⊥) (c ++ l ∷ []) l r.apart (Contains-push c l)
            (Contains-append_left c (l ∷ []) (neg_ℤ l) here)
      ]

  -- it is false already
  pub from_if_false : is_false marks l ≡ true → IsFrom marks clauses (c ++ l ∷ [])
  from_if_false on = record {
    assumed = push_false (is_false marks) c l h.assumed on;
    forced = λ f quiet bad m m_on.
        let fact : (f m ≡ true) × ((f (neg_ℤ m) ≡ true → ⊥) ⊎ Contains c m) = h.forced f quiet (left_false f c (l ∷ []) bad) m m_on in
        (fact.0, elim fact.1 [ inl never ↦ inl never | inr here ↦ inr (Contains-append_left c (l ∷ []) m here) ]);
  }

  -- it becomes false
  pub from_push : code_of l < length marks → IsFrom (set marks (code_of l) true) clauses (c ++ l ∷ [])
  from_push lt = record {
    assumed = push_false (is_false (set marks (code_of l) true)) c l
        (All-weaker (λ m. is_false marks m ≡ true) (λ m. is_false (set marks (code_of l) true) m ≡ true) (λ m on. marked_more marks l m lt on) c h.assumed)
        (marked_same marks l lt);
    forced = λ f quiet bad m m_on. elim (marked_cases marks l m lt m_on) [
      | inl old ↦
          let fact : (f m ≡ true) × ((f (neg_ℤ m) ≡ true → ⊥) ⊎ Contains c m) = h.forced f quiet (left_false f c (l ∷ []) bad) m old in
          (fact.0, elim fact.1 [ inl never ↦ inl never | inr here ↦ inr (Contains-append_left c (l ∷ []) m here) ])
      | inr e ↦ (ap f e ∙ last_false f c l bad, inr (subst (Contains (c ++ l ∷ [])) (sym e) (Contains-push c l)))
    ];
  }

module _ (marks : List Bool) (clauses : List (List ℤ)) (c : List ℤ) (h : IsFrom marks clauses c) where
  pub from_growth : (new : List Bool) → IsGrowth marks new clauses → IsFrom new clauses c
  from_growth new g = record {
    assumed = All-weaker (λ m. is_false marks m ≡ true) (λ m. is_false new m ≡ true) (λ m on. g.grows m on) c h.assumed;
    forced = λ f quiet bad l on.
        let within : IsMarkedWithin marks f = λ m m_on. (h.forced f quiet bad m m_on).0 in (
          g.within f quiet within l on,
          elim (cases_Bool (is_false marks l)) [
            | inl was ↦ (h.forced f quiet bad l was).1
            | inr not_yet ↦ inl (λ other. g.forced f quiet within l on not_yet other)
          ],
        );
  }

  pub conflict_if_refuted : AreRefuted marks clauses → NoneResists clauses c
  conflict_if_refuted refuted f r = refuted f r.quiet (λ l on. (h.forced f r.quiet r.assumed l on).0)

-- after one more literal only those entries are late that watch it
pub tracing_push : (base : Propagator) (now : Trail) (clauses : List (List ℤ)) → IsSettled base clauses → StaysOver base.trail now → now.read ≡ base.trail.read
    → IsPropagating now now base.watch clauses now.read (λ _. ⊥)
tracing_push base now clauses b over read =
    let o : IsOver base.trail.marks.items base.trail.len now = over base.trail.marks.items base.trail.len (over_none base.trail) in
    record {
      growth = growth_none now.marks.items clauses now.in_step.consistent;
      low = omega (arith, o.low, b.read);
      over = λ ms k h. h;
      guarded = λ is_on. guarded_map base.watch base.watch base.trail.marks.items now.marks.items clauses (λ _. ⊥) (λ d. IsSince now now.read (watched base.watch d) ⊎ ⊥) refl (λ l on. o.kept (code_of l) on)
          (λ d lt some on none. elim (o.traced (code_of (watched base.watch d)) on) [
            | inl a ↦ absurd (none a)
            | inr late ↦ let (j, low, high, e) = late in inl (j, omega (arith, b.read), high, e)
          ]) (b.watches is_on).safe;
    }

-- propagation after one more literal
pub settled_push : (mid new : Propagator) (clauses : List (List ℤ)) → HaveMarks mid.trail clauses → HasPropagated mid new clauses → LeadsBack mid new clauses → IsSettled new clauses
settled_push mid new clauses room done back = record {
  room = subst (λ n. HaveRoom n clauses) (sym done.growth.sized) room;
  quiet = done.quiet;
  read = done.read;
  watches = λ on. record { laced = back.laced on; safe = done.safe on };
}

-- what a part of a clause has, the clause has
pub taken_wider : (clauses : List (List ℤ)) (c : List ℤ) (k : ℕ) → NoneResists clauses (take k c) → NoneResists clauses c
taken_wider clauses c k none = wider clauses (take k c) c (all_from (Contains c) (take k c) (λ l here. in_whole c k l here)) none
