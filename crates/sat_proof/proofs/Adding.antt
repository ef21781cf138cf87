-- One more clause is taken in.
use Rattle.std.proofs.Common.{◌≡◌, ℕ, ◌<◌, ◌≤◌, ◌+◌, ◌*◌, Bool, true, List, [], ◌∷◌, ◌++◌, length, ap, sym, refl, ◌∙◌, ◌⊎◌, inl, inr, set, slice_index_or, take, arith, subst}
use Rattle.std.proofs.lemmas.Bool.{cases_lt, false≢true}
use Rattle.std.proofs.lemmas.List.{take_more, get_or-set_other, get_or-set_same, length-set}
use Rattle.std.proofs.lemmas.List.Elements.{All-contains, All-take, All-weaker, Contains-get_or, Contains-push}
use Rattle.std.specs.Prelude.{ℤ, pos, neg_ℤ}
use Rattle.std.specs.List.{All}
use Rattle.sat_proof.specs.Closed.{IsFalse, IsQuiet}
use Rattle.sat_proof.specs.Code.{code_of, is_false, HasRoom}
use Rattle.sat_proof.specs.Guard.{IsAwake, AreGuarded, AreSafe, IsSince, IsPropagating, IsTakenIn, Watches, met, forced, watching}
use Rattle.sat_proof.specs.Log.{before, clause_at}
use Rattle.sat_proof.specs.Status.{literal_at, Holds, IsOnlyOpen, AreOpen}
use Rattle.sat_proof.specs.Propagation.{IsGrowth, AreRefuted, IsBase}
use Rattle.sat_proof.specs.Trail.{IsPush, IsOver, StaysOver}
use Rattle.sat_proof.specs.Watch.{watched, IsChained, IsPair, IsPaired, IsLaced, IsAdded}
use Rattle.sat_proof.specs.declared.trail.Trail.{Trail}
use Rattle.sat_proof.specs.declared.watch.Watch.{Watch}
use Rattle.sat_proof.proofs.Bases.{entry, quiet_push, next_is}
use Rattle.sat_proof.proofs.Chains.{clause_before, clause_last, length_push}
use Rattle.sat_proof.proofs.Codes.{room_other, marked_cases, marked_same}
use Rattle.sat_proof.proofs.Guards.{guarded_map, since_push}
use Rattle.sat_proof.proofs.Runs.{growth_none, growth_more, growth_step, clause_in}
use Rattle.sat_proof.proofs.Trails.{over_push, code_new, over_none}

growth_push : (old new : List Bool) (clauses : List (List ℤ)) (c : List ℤ) → IsGrowth old new clauses → IsGrowth old new (clauses ++ c ∷ [])
growth_push old new clauses c g = record {
  sized = g.sized;
  consistent = g.consistent;
  grows = g.grows;
  within = λ f quiet w. g.within f (quiet_push clauses c f quiet) w;
  forced = λ f quiet w. g.forced f (quiet_push clauses c f quiet) w;
}

-- Two more entries.
module _ (x y : Watch) (clauses : List (List ℤ)) (c : List ℤ) (a b : ℤ) (used : x.used ≡ 2 * length clauses) (added : IsAdded x y a b) where
  added_old : (d : ℕ) → d < 2 * length clauses → watched y d ≡ watched x d
  added_old d lt = ap (λ ls. slice_index_or ls d (pos 0)) added.literals
      ∙ get_or-set_other (set x.literals.items x.used a) (x.used + 1) d b (pos 0) (λ is. omega (arith, is, used))
      ∙ get_or-set_other x.literals.items x.used d a (pos 0) (λ is. omega (arith, is, used))

  added_first : watched y (2 * length clauses) ≡ a
  added_first = ap (watched y) (sym used) ∙ ap (λ ls. slice_index_or ls x.used (pos 0)) added.literals
      ∙ get_or-set_other (set x.literals.items x.used a) (x.used + 1) x.used b (pos 0) (λ is. omega (arith, is))
      ∙ get_or-set_same x.literals.items x.used a (pos 0) (omega (arith, added.left))

  added_second : watched y (2 * length clauses + 1) ≡ b
  added_second = ap (λ n. watched y (n + 1)) (sym used) ∙ ap (λ ls. slice_index_or ls (x.used + 1) (pos 0)) added.literals
      ∙ get_or-set_same (set x.literals.items x.used a) (x.used + 1) b (pos 0) (omega (arith, added.left, length-set x.literals.items x.used a))

  pub guarded_push : (marks : List Bool) (Late Late' : ℕ → Type 0) → ((d : ℕ) → d < 2 * length clauses → Late d → Late' d) → Holds marks c ⊎ IsAwake y marks (length clauses) Late'
      → AreGuarded x marks clauses Late → AreGuarded y marks (clauses ++ c ∷ []) Late'
  guarded_push marks Late Late' later this h n lt = elim (cases_lt n (length clauses)) [
    | inl low ↦ elim (h n low) [
      | inl holds ↦ inl (subst (Holds marks) (sym (clause_before clauses c n low)) holds)
      | inr awake ↦ inr (record {
        some = λ z. awake.some (sym (added_old (2 * n) (omega arith)) ∙ z);
        other = λ z. awake.other (sym (added_old (2 * n + 1) (omega arith)) ∙ z);
        first = λ on. later (2 * n) (omega arith) (awake.first (ap (is_false marks) (sym (added_old (2 * n) (omega arith))) ∙ on));
        second = λ on. later (2 * n + 1) (omega arith) (awake.second (ap (is_false marks) (sym (added_old (2 * n + 1) (omega arith))) ∙ on));
      })
    ]
    | inr high ↦
        let last : n ≡ length clauses = omega (arith, length_push clauses c) in
        subst (λ m. Holds marks (clause_at (clauses ++ c ∷ []) m) ⊎ IsAwake y marks m Late') (sym last) (elim this [
          | inl holds ↦ inl (subst (Holds marks) (sym (clause_last clauses c)) holds)
          | inr awake ↦ inr awake
        ])
  ]

  pub laced_push : IsLaced x clauses 0 0 → IsChained y 0 0 → ((a ≡ pos 0) × (b ≡ pos 0)) ⊎ IsPair c a b → IsLaced y (clauses ++ c ∷ []) 0 0
  laced_push h chained pair = record {
    chained = chained;
    used = omega (arith, added.used, used, length_push clauses c);
    pairs = λ n lt. elim (cases_lt n (length clauses)) [
      | inl low ↦ elim (h.pairs n low) [
        | inl zeros ↦ inl (added_old (2 * n) (omega arith) ∙ zeros.0, added_old (2 * n + 1) (omega arith) ∙ zeros.1)
        | inr p ↦ inr (subst (λ d. IsPair d (watched y (2 * n)) (watched y (2 * n + 1))) (sym (clause_before clauses c n low))
            (subst (λ l. IsPair (clause_at clauses n) l (watched y (2 * n + 1))) (sym (added_old (2 * n) (omega arith)))
            (subst (IsPair (clause_at clauses n) (watched x (2 * n))) (sym (added_old (2 * n + 1) (omega arith))) p)))
      ]
      | inr high ↦
          let last : n ≡ length clauses = omega (arith, length_push clauses c) in
          subst (IsPaired y (clauses ++ c ∷ [])) (sym last) (elim pair [
            | inl zeros ↦ inl (added_first ∙ zeros.0, added_second ∙ zeros.1)
            | inr p ↦ inr (subst (λ d. IsPair d (watched y (2 * length clauses)) (watched y (2 * length clauses + 1))) (sym (clause_last clauses c))
                (subst (λ l. IsPair c l (watched y (2 * length clauses + 1))) (sym added_first) (subst (IsPair c a) (sym added_second) p)))
          ])
    ];
  }

-- A clause was taken in.
module _ (old now next : Trail) (x y : Watch) (clauses : List (List ℤ)) (c : List ℤ) (from : ℕ) (h : IsPropagating old now x clauses from (λ _. ⊥))
    (laced : x.on ≡ true → IsLaced x clauses 0 0) (was : y.on ≡ true → x.on ≡ true) (chained : y.on ≡ true → IsChained y 0 0)
    (room : All (HasRoom (length now.marks.items)) c) where
  abbrev Late : Trail → Watch → ℕ → Type 0
  Late t z d = IsSince t from (watched z d) ⊎ ⊥

  -- an old entry is as late as it was
  late_still : (t : Trail) (a b : ℤ) → x.used ≡ 2 * length clauses → IsAdded x y a b → (d : ℕ) → d < 2 * length clauses → Late t x d → Late t y d
  late_still t a b used added d lt late = elim late [
    | inl s ↦ inl (subst (IsSince t from) (sym (added_old x y clauses c a b used added d lt)) s)
    | inr none ↦ absurd none
  ]

  -- the clause is true
  entered_true : (t : Trail) → IsGrowth old.marks.items t.marks.items (clauses ++ c ∷ []) → from ≤ t.len → StaysOver old t
      → (x.on ≡ true → AreGuarded x t.marks.items clauses (Late t x)) → Holds t.marks.items c → (y.on ≡ true → IsAdded x y (pos 0) (pos 0))
      → IsPropagating old t y (clauses ++ c ∷ []) from (λ _. ⊥)
  entered_true t growth low over guarded holds added = record {
    growth = growth;
    low = low;
    over = over;
    guarded = λ is_on. guarded_push x y clauses c (pos 0) (pos 0) (laced (was is_on)).used (added is_on) t.marks.items (Late t x) (Late t y)
        (late_still t (pos 0) (pos 0) (laced (was is_on)).used (added is_on)) (inl holds) (guarded (was is_on));
  }

  entered_met : Holds now.marks.items c → (y.on ≡ true → IsAdded x y (pos 0) (pos 0)) → IsPropagating old now y (clauses ++ c ∷ []) from (λ _. ⊥)
  entered_met holds added = entered_true now (growth_push old.marks.items now.marks.items clauses c h.growth) h.low h.over h.guarded holds added

  entered_forced : (k : ℕ) → IsOnlyOpen now.marks.items c (length c) k → IsPush now next (code_of (neg_ℤ (literal_at c k)))
      → (y.on ≡ true → IsAdded x y (pos 0) (pos 0)) → IsPropagating old next y (clauses ++ c ∷ []) from (λ _. ⊥)
  entered_forced k only p added =
      let l : ℤ = literal_at c k in
      let r : HasRoom (length now.marks.items) l = room k (pos 0) only.below in
      let other : HasRoom (length now.marks.items) (neg_ℤ l) = room_other (length now.marks.items) l r in
      let step : IsGrowth now.marks.items next.marks.items (clauses ++ c ∷ []) = subst (λ (ms : List Bool). IsGrowth now.marks.items ms (clauses ++ c ∷ [])) (sym p.marks)
      (growth_step now.marks.items (clauses ++ c ∷ []) c k h.growth.consistent (Contains-push clauses c) only r) in
      entered_true next
      (growth_more old.marks.items now.marks.items next.marks.items (clauses ++ c ∷ []) (growth_push old.marks.items now.marks.items clauses c h.growth) step)
      (omega (arith, p.len, h.low)) (λ base b o. over_push now next (code_of (neg_ℤ l)) other.own only.is_open.1 p base b (h.over base b o))
      (λ is_on. guarded_map x x now.marks.items next.marks.items clauses (Late now x) (Late next x) refl (λ m on. step.grows m on)
      (λ d d_lt some on late. elim (marked_cases now.marks.items (neg_ℤ l) (watched x d) other.own (subst (λ (ms : List Bool). is_false ms (watched x d) ≡ true) p.marks on)) [
        | inl a ↦ elim (late a) [
          | inl s ↦ inl (since_push now next (code_of (neg_ℤ l)) from (watched x d) other.own only.is_open.1 p s)
          | inr none ↦ absurd none
        ]
        | inr is ↦ inl (now.len, h.low, omega (arith, p.len), code_new now next (code_of (neg_ℤ l)) other.own only.is_open.1 p ∙ ap code_of (sym is))
      ]) (h.guarded is_on))
      (l, Contains-get_or c k (pos 0) only.below, subst (λ (ms : List Bool). is_false ms (neg_ℤ l) ≡ true) (sym p.marks) (marked_same now.marks.items (neg_ℤ l) other.own)) added

  entered_watching : (j k : ℕ) → AreOpen now.marks.items c j k → (y.on ≡ true → IsAdded x y (literal_at c j) (literal_at c k))
      → IsPropagating old now y (clauses ++ c ∷ []) from (λ _. ⊥)
  entered_watching j k both added = record {
    growth = growth_push old.marks.items now.marks.items clauses c h.growth;
    low = h.low;
    over = h.over;
    guarded = λ is_on.
        let used : x.used ≡ 2 * length clauses = (laced (was is_on)).used in
        let first : watched y (2 * length clauses) ≡ literal_at c j = added_first x y clauses c (literal_at c j) (literal_at c k) used (added is_on) in
        let second : watched y (2 * length clauses + 1) ≡ literal_at c k = added_second x y clauses c (literal_at c j) (literal_at c k) used (added is_on) in
        guarded_push x y clauses c (literal_at c j) (literal_at c k) used (added is_on) now.marks.items (Late now x) (Late now y)
        (late_still now (literal_at c j) (literal_at c k) used (added is_on)) (inr (record {
          some = λ z. (room j (pos 0) both.below).nonzero (sym first ∙ z);
          other = λ z. (room k (pos 0) both.other_below).nonzero (sym second ∙ z);
          first = λ on. absurd (false≢true (sym both.is_open.0 ∙ ap (is_false now.marks.items) (sym first) ∙ on));
          second = λ on. absurd (false≢true (sym both.other_open.0 ∙ ap (is_false now.marks.items) (sym second) ∙ on));
        })) (h.guarded (was is_on));
  }

  pub entered : IsTakenIn now next x y c → IsPropagating old next y (clauses ++ c ∷ []) from (λ _. ⊥)
  entered (met same holds added) = subst (λ t. IsPropagating old t y (clauses ++ c ∷ []) from (λ _. ⊥)) (sym same) (entered_met holds added)
  entered (forced k only p added) = entered_forced k only p added
  entered (watching j k same both added) = subst (λ t. IsPropagating old t y (clauses ++ c ∷ []) from (λ _. ⊥)) (sym same) (entered_watching j k both added)

  pub entered_laced : IsTakenIn now next x y c → y.on ≡ true → IsLaced y (clauses ++ c ∷ []) 0 0
  entered_laced (met same holds added) is_on = laced_push x y clauses c (pos 0) (pos 0) (laced (was is_on)).used (added is_on) (laced (was is_on)) (chained is_on) (inl (refl, refl))
  entered_laced (forced k only p added) is_on = laced_push x y clauses c (pos 0) (pos 0) (laced (was is_on)).used (added is_on) (laced (was is_on)) (chained is_on) (inl (refl, refl))
  entered_laced (watching j k same both added) is_on = laced_push x y clauses c (literal_at c j) (literal_at c k) (laced (was is_on)).used (added is_on) (laced (was is_on)) (chained is_on)
      (inr (record { first = Contains-get_or c j (pos 0) both.below; second = Contains-get_or c k (pos 0) both.other_below; apart = both.differ }))

-- nothing is late where nothing is assumed
pub tracing_base : (t : Trail) (x : Watch) (clauses : List (List ℤ)) → IsBase t clauses → (x.on ≡ true → AreSafe x t.marks.items clauses) → IsPropagating t t x clauses t.read (λ _. ⊥)
tracing_base t x clauses b safe = record {
  growth = growth_none t.marks.items clauses t.in_step.consistent;
  low = omega (arith, b.read);
  over = λ base k o. o;
  guarded = λ is_on. guarded_map x x t.marks.items t.marks.items clauses (λ _. ⊥) (λ d. IsSince t t.read (watched x d) ⊎ ⊥) refl (λ l on. on)
      (λ d lt some on none. absurd (none on)) (safe is_on);
}

-- after assumptions only those are late that watch one of them
pub tracing_assumed : (base now : Trail) (x : Watch) (clauses : List (List ℤ)) → IsBase base clauses → (x.on ≡ true → AreSafe x base.marks.items clauses)
    → StaysOver base now → now.read ≡ base.read → IsPropagating now now x clauses now.read (λ _. ⊥)
tracing_assumed base now x clauses b safe over read =
    let o : IsOver base.marks.items base.len now = over base.marks.items base.len (over_none base) in
    record {
      growth = growth_none now.marks.items clauses now.in_step.consistent;
      low = omega (arith, o.low, b.read);
      over = λ ms k h. h;
      guarded = λ is_on. guarded_map x x base.marks.items now.marks.items clauses (λ _. ⊥) (λ d. IsSince now now.read (watched x d) ⊎ ⊥) refl (λ l on. o.kept (code_of l) on)
          (λ d lt some on none. elim (o.traced (code_of (watched x d)) on) [
            | inl a ↦ absurd (none a)
            | inr late ↦ let (j, low, high, e) = late in inl (j, omega (arith, b.read), high, e)
          ]) (safe is_on);
    }

-- The next clause of a log is taken in.
module _ (query log : List (List ℤ)) (k : ℕ) (lt : k < length log) (c r : List ℤ) (e : c ≡ r) (f : r ≡ slice_index_or log k r) (t next : Trail) (x y : Watch)
    (b : IsBase t (before query log k)) (serves : Watches x t.marks.items (before query log k)) (was : y.on ≡ true → x.on ≡ true) (chained : y.on ≡ true → IsChained y 0 0)
    (room : All (HasRoom (length t.marks.items)) c) (entry : IsTakenIn t next x y c) where
  pub next_tracing : next.read ≡ t.read → IsPropagating t next y (before query log (k + 1)) next.read (λ _. ⊥)
  next_tracing read = subst (λ n. IsPropagating t next y (before query log (k + 1)) n (λ _. ⊥)) (sym read)
      (subst (λ cs. IsPropagating t next y cs t.read (λ _. ⊥)) (next_is query log k lt c r e f t b)
      (entered t t next x y (before query log k) c t.read (tracing_base t x (before query log k) b (λ is_on. (serves is_on).safe)) (λ is_on. (serves is_on).laced) was chained room entry))

  pub next_laced : y.on ≡ true → IsLaced y (before query log (k + 1)) 0 0
  next_laced is_on = subst (λ cs. IsLaced y cs 0 0) (next_is query log k lt c r e f t b)
      (entered_laced t t next x y (before query log k) c t.read (tracing_base t x (before query log k) b (λ is_on. (serves is_on).safe)) (λ is_on. (serves is_on).laced) was chained room entry is_on)

-- The next clause of a formula is taken in.
module _ (query : List (List ℤ)) (n : ℕ) (lt : n < length query) (c r : List ℤ) (e : c ≡ r) (f : r ≡ slice_index_or query n r) where
  taken : take n query ++ c ∷ [] ≡ take (n + 1) query
  taken = ap (λ (d : List ℤ). take n query ++ d ∷ []) (entry query n c r lt e f) ∙ sym (take_more query n [] lt)

  pub gathered_refuted : (old now : List Bool) → IsGrowth old now (take n query) → IsFalse (is_false now) c → AreRefuted old query
  gathered_refuted old now g bad test quiet w = (All-contains (IsQuiet test) query (clause_at query n) quiet (clause_in query n lt)).met
      (subst (λ (d : List ℤ). IsFalse test d) (entry query n c r lt e f)
      (All-weaker (λ l. is_false now l ≡ true) (λ l. test l ≡ true) (λ l on. g.within test (All-take (IsQuiet test) n query quiet) w l on) c bad))

  module _ (old now next : Trail) (x y : Watch) (from : ℕ) (h : IsPropagating old now x (take n query) from (λ _. ⊥)) (laced : x.on ≡ true → IsLaced x (take n query) 0 0)
      (was : y.on ≡ true → x.on ≡ true) (chained : y.on ≡ true → IsChained y 0 0) (room : All (HasRoom (length now.marks.items)) c) (entry_is : IsTakenIn now next x y c) where
    pub gathered_tracing : IsPropagating old next y (take (n + 1) query) from (λ _. ⊥)
    gathered_tracing = subst (λ cs. IsPropagating old next y cs from (λ _. ⊥)) taken (entered old now next x y (take n query) c from h laced was chained room entry_is)

    pub gathered_laced : y.on ≡ true → IsLaced y (take (n + 1) query) 0 0
    gathered_laced is_on = subst (λ cs. IsLaced y cs 0 0) taken (entered_laced old now next x y (take n query) c from h laced was chained room entry_is is_on)

-- no clause is taken in yet
pub gathered_none : (t : Trail) (x : Watch) (query : List (List ℤ)) → t.read ≤ t.len → IsPropagating t t x (take 0 query) t.read (λ _. ⊥)
gathered_none t x query low = record {
  growth = growth_none t.marks.items (take 0 query) t.in_step.consistent;
  low = low;
  over = λ base b o. o;
  guarded = λ is_on n lt. absurd (omega (arith, lt));
}
