-- Propagation: what a look at a clause keeps.
use Rattle.std.proofs.Common.{◌≡◌, ◌≢◌, ℕ, ◌<◌, ◌≤◌, ◌+◌, Bool, true, List, length, ap, sym, refl, ◌∙◌, ◌⊎◌, inl, inr, set, slice_index_or, arith, subst}
use Rattle.std.proofs.lemmas.Bool.{cases_eq, cases_Bool, false≢true}
use Rattle.std.proofs.lemmas.List.{length-set}
use Rattle.std.proofs.lemmas.List.Elements.{All-contains, All-weaker, All-from_get_or, All-get_or, Contains-get_or}
use Rattle.std.specs.Prelude.{ℤ, pos, neg_ℤ, []}
use Rattle.std.specs.List.{All, Contains}
use Rattle.sat_proof.specs.Assignment.{HasNoZero}
use Rattle.sat_proof.specs.Closed.{IsFalse, IsQuiet, AreOthersFalse}
use Rattle.sat_proof.specs.Code.{code_of, is_false, HasRoom, HaveRoom, IsConsistent}
use Rattle.sat_proof.specs.Log.{clause_at}
use Rattle.sat_proof.specs.Status.{literal_at, IsOnlyOpen}
use Rattle.sat_proof.specs.Propagation.{IsGrowth, AreRefuted, IsVisit, IsRunning}
use Rattle.sat_proof.specs.Trail.{held, IsPush}
use Rattle.sat_proof.specs.declared.trail.Trail.{Trail}
use Rattle.sat_proof.proofs.Codes.{literal_cases, neg-neg, room_other, marked_more, marked_cases, marked_same, consistent_step}
use Rattle.sat_proof.proofs.Quiet.{quiet_by_true, quiet_kept}
use Rattle.sat_proof.proofs.Trails.{over_push, since_kept, since_new}

pub growth_none : (marks : List Bool) (clauses : List (List ℤ)) → IsConsistent marks → IsGrowth marks marks clauses
growth_none marks clauses apart = record {
  sized = refl;
  consistent = apart;
  grows = λ l on. on;
  within = λ f quiet w. w;
  forced = λ f quiet w l on off. absurd (false≢true (sym off ∙ on));
}

-- one growth after another
pub growth_more : (old now new : List Bool) (clauses : List (List ℤ)) → IsGrowth old now clauses → IsGrowth now new clauses → IsGrowth old new clauses
growth_more old now new clauses g h = record {
  sized = h.sized ∙ g.sized;
  consistent = h.consistent;
  grows = λ l on. h.grows l (g.grows l on);
  within = λ f quiet w. h.within f quiet (g.within f quiet w);
  forced = λ f quiet w l on off. elim (cases_Bool (is_false now l)) [
    | inl e ↦ g.forced f quiet w l e off
    | inr e ↦ h.forced f quiet (g.within f quiet w) l on e
  ];
}

all_false : (f : ℤ → Bool) (c : List ℤ) (k : ℕ) → f (literal_at c k) ≡ true
    → ((j : ℕ) → j < length c → literal_at c j ≢ literal_at c k → f (literal_at c j) ≡ true) → (i : ℕ) → i < length c → f (literal_at c i) ≡ true
all_false f c k here others i lt = elim (literal_cases (literal_at c i) (literal_at c k)) [
  | inl e ↦ ap f e ∙ here
  | inr ne ↦ others i lt ne
]

-- the only open literal of a clause is true
pub growth_step : (marks : List Bool) (clauses : List (List ℤ)) (c : List ℤ) (k : ℕ) → IsConsistent marks → Contains clauses c
    → IsOnlyOpen marks c (length c) k → HasRoom (length marks) (literal_at c k) → IsGrowth marks (set marks (code_of (neg_ℤ (literal_at c k))) true) clauses
growth_step marks clauses c k apart here only room =
    let l : ℤ = literal_at c k in
    let other : HasRoom (length marks) (neg_ℤ l) = room_other (length marks) l room in
    record {
      sized = length-set marks (code_of (neg_ℤ l)) true;
      consistent = consistent_step marks (neg_ℤ l) apart other (ap (is_false marks) (neg-neg l) ∙ only.is_open.0);
      grows = λ m on. marked_more marks (neg_ℤ l) m other.own on;
      within = λ f quiet w m on. elim (marked_cases marks (neg_ℤ l) m other.own on) [
        | inl a ↦ w m a
        | inr e ↦ ap f e ∙ All-contains (λ x. AreOthersFalse f c x → f (neg_ℤ x) ≡ true) c l
            (All-contains (IsQuiet f) clauses c quiet here).closed (Contains-get_or c k (pos 0) only.below)
            (All-from_get_or (λ x. x ≢ l → f x ≡ true) c (pos 0) (λ i lt ne. w (literal_at c i) (only.others i lt ne)))
      ];
      forced = λ f quiet w m on off no. elim (marked_cases marks (neg_ℤ l) m other.own on) [
        | inl a ↦ false≢true (sym off ∙ a)
        | inr e ↦
            let l_false : f l ≡ true = ap f (sym (ap neg_ℤ e ∙ neg-neg l)) ∙ no in
            (All-contains (IsQuiet f) clauses c quiet here).met (All-from_get_or (λ x. f x ≡ true) c (pos 0)
            (λ i lt. all_false f c k l_false (λ j j_lt ne. w (literal_at c j) (only.others j j_lt ne)) i lt))
      ];
    }

-- a false clause
pub refuted_by : (old now : List Bool) (clauses : List (List ℤ)) (c : List ℤ) → IsGrowth old now clauses → Contains clauses c
    → IsFalse (is_false now) c → AreRefuted old clauses
refuted_by old now clauses c g here bad f quiet w = (All-contains (IsQuiet f) clauses c quiet here).met
    (All-weaker (λ l. is_false now l ≡ true) (λ l. f l ≡ true) (λ l on. g.within f quiet w l on) c bad)

pub clause_in : (clauses : List (List ℤ)) (n : ℕ) → n < length clauses → Contains clauses (clause_at clauses n)
clause_in clauses n lt = Contains-get_or clauses n [] lt

pub room_at : (size : ℕ) (clauses : List (List ℤ)) (n : ℕ) → HaveRoom size clauses → n < length clauses → HasNoZero (clause_at clauses n)
    → All (HasRoom size) (clause_at clauses n)
room_at size clauses n room lt no_zero j d jt =
    let both : (code_of (slice_index_or (clause_at clauses n) j d) < size) × (code_of (neg_ℤ (slice_index_or (clause_at clauses n) j d)) < size) =
    All-get_or (λ c. All (λ l. (code_of l < size) × (code_of (neg_ℤ l) < size)) c) clauses n [] lt room j d jt in
    record { nonzero = no_zero j d jt; own = both.0; other = both.1 }

pub running_none : (t : Trail) (clauses : List (List ℤ)) → IsRunning t t clauses t.len (λ n. n < length clauses)
running_none t clauses = record {
  growth = growth_none t.marks.items clauses t.in_step.consistent;
  low = omega arith;
  over = λ base b o. o;
  settled = λ n lt none no. absurd (no lt);
}

-- A look at clause i, after which only other clauses wait.
module _ (old now : Trail) (clauses : List (List ℤ)) (from i : ℕ) (Waits Waits' : ℕ → Type 0) (h : IsRunning old now clauses from Waits)
    (lt : i < length clauses) (fewer : (n : ℕ) → Waits n → (n ≡ i) ⊎ Waits' n) where
  pub visited_still : IsQuiet (held now) (clause_at clauses i) → IsRunning old now clauses from Waits'
  visited_still quiet = record {
    growth = h.growth;
    low = h.low;
    over = h.over;
    settled = λ n n_lt none no. elim (cases_eq n i) [
      | inl e ↦ subst (λ m. IsQuiet (held now) (clause_at clauses m)) (sym e) quiet
      | inr ne ↦ h.settled n n_lt none (λ w. elim (fewer n w) [ inl e ↦ ne e | inr w' ↦ no w' ])
    ];
  }

  pub visited_push : (new : Trail) (k : ℕ) → All (HasRoom (length now.marks.items)) (clause_at clauses i)
      → IsOnlyOpen now.marks.items (clause_at clauses i) (length (clause_at clauses i)) k → IsPush now new (code_of (neg_ℤ (literal_at (clause_at clauses i) k)))
      → IsRunning old new clauses from Waits'
  visited_push new k room only p =
      let c : List ℤ = clause_at clauses i in
      let l : ℤ = literal_at c k in
      let r : HasRoom (length now.marks.items) l = All-get_or (HasRoom (length now.marks.items)) c k (pos 0) only.below room in
      let other : HasRoom (length now.marks.items) (neg_ℤ l) = room_other (length now.marks.items) l r in
      let step : IsGrowth now.marks.items new.marks.items clauses = subst (λ (ms : List Bool). IsGrowth now.marks.items ms clauses) (sym p.marks)
      (growth_step now.marks.items clauses c k h.growth.consistent (clause_in clauses i lt) only r) in
      record {
        growth = growth_more old.marks.items now.marks.items new.marks.items clauses h.growth step;
        low = omega (arith, p.len, h.low);
        over = λ base b o. over_push now new (code_of (neg_ℤ l)) other.own only.is_open.1 p base b (h.over base b o);
        settled = λ n n_lt none no. elim (cases_eq n i) [
          | inl e ↦ subst (λ m. IsQuiet (held new) (clause_at clauses m)) (sym e)
              (let on : is_false new.marks.items (neg_ℤ l) ≡ true = subst (λ (ms : List Bool). is_false ms (neg_ℤ l) ≡ true) (sym p.marks) (marked_same now.marks.items (neg_ℤ l) other.own) in
              quiet_by_true (held new) c l (λ off. step.consistent l off on) (Contains-get_or c k (pos 0) only.below) on)
          | inr ne ↦ quiet_kept (held now) (held new) (clause_at clauses n) (λ m on. step.grows m on)
              (λ m here on. elim (marked_cases now.marks.items (neg_ℤ l) m other.own (subst (λ (ms : List Bool). is_false ms m ≡ true) p.marks on)) [
                | inl a ↦ a
                | inr e ↦ absurd (none (since_new now new (code_of (neg_ℤ l)) other.own only.is_open.1 p from (clause_at clauses n) m h.low here (ap code_of (sym e))))
              ])
              (h.settled n n_lt (λ s. none (since_kept now new (code_of (neg_ℤ l)) other.own only.is_open.1 p from (clause_at clauses n) s))
              (λ w. elim (fewer n w) [ inl e ↦ ne e | inr w' ↦ no w' ]))
        ];
      }

  pub visited : (new : Trail) → All (HasRoom (length now.marks.items)) (clause_at clauses i) → IsVisit now new (clause_at clauses i)
      → IsRunning old new clauses from Waits'
  visited new room v = elim v [
    | inl a ↦ subst (λ t. IsRunning old t clauses from Waits') (sym a.0) (visited_still a.1)
    | inr b ↦ visited_push new b.0 room b.1 b.2
  ]

-- once no clause waits and nothing came, all are quiet
pub running_quiet : (old now : Trail) (clauses : List (List ℤ)) (from : ℕ) → IsRunning old now clauses from (λ _. ⊥) → now.len ≡ from → All (IsQuiet (held now)) clauses
running_quiet old now clauses from h e = All-from_get_or (IsQuiet (held now)) clauses [] (λ n lt. h.settled n lt
    (λ s. let (j, low, high, some) = s in absurd (omega arith)) (λ no. no))

pub running_done : (old now : Trail) (clauses : List (List ℤ)) (from i : ℕ) → IsRunning old now clauses from (λ n. i ≤ n) → length clauses ≤ i
    → IsRunning old now clauses from (λ _. ⊥)
running_done old now clauses from i h le = record {
  growth = h.growth;
  low = h.low;
  over = h.over;
  settled = λ n lt none no. h.settled n lt none (λ w. absurd (omega arith));
}

pub next_waits : (i n : ℕ) → i ≤ n → (n ≡ i) ⊎ (i + 1 ≤ n)
next_waits i n le = elim (cases_eq n i) [ inl e ↦ inl e | inr ne ↦ inr (omega arith) ]
