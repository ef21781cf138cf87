-- A walk over a chain of watches, and a step along the trail.
use Rattle.std.proofs.Common.{◌≡◌, ◌≢◌, ℕ, ◌<◌, ◌+◌, ◌-◌, ◌*◌, Bool, true, List, length, ap, sym, refl, ◌∙◌, ◌⊎◌, inl, inr, slice_index_or, arith, subst}
use Rattle.std.proofs.lemmas.Bool.{cases_eq}
use Rattle.std.proofs.lemmas.List.{get_or-set_other, get_or-set_same}
use Rattle.std.proofs.lemmas.List.Elements.{All-from_get_or, Contains-get_or}
use Rattle.std.specs.Prelude.{ℤ, pos, []}
use Rattle.std.specs.List.{All}
use Rattle.sat_proof.specs.Closed.{IsQuiet}
use Rattle.sat_proof.specs.Code.{code_of, is_false, HasRoom, IsConsistent, IsMarkedWithin}
use Rattle.sat_proof.specs.Guard.{AreSafe, IsSince, IsPropagating, IsVisited, IsAnyFalse, IsHandled, rests, moves, forces}
use Rattle.sat_proof.specs.Log.{clause_at}
use Rattle.sat_proof.specs.Status.{literal_at}
use Rattle.sat_proof.specs.Propagation.{IsGrowth, AreRefuted}
use Rattle.sat_proof.specs.Trail.{held, code_at, IsRead}
use Rattle.sat_proof.specs.Watch.{Leads, this, head_of, count_of, watched, IsChained, IsPair, IsPaired, IsLaced, IsLink, IsDetached, AreTwins}
use Rattle.sat_proof.specs.declared.trail.Trail.{Trail}
use Rattle.sat_proof.specs.declared.watch.Watch.{Watch}
use Rattle.sat_proof.proofs.Codes.{by_not_true}
use Rattle.sat_proof.proofs.Links.{leads_none, leads_below, ends_at, link_keeps, link_loose, loose_entry}
use Rattle.sat_proof.proofs.Stages.{turn_chained, detach_chained}
use Rattle.sat_proof.proofs.Quiet.{quiet_by_true, quiet_by_two}
use Rattle.sat_proof.proofs.Runs.{growth_none, growth_more, clause_in, refuted_by}
use Rattle.sat_proof.proofs.Trails.{over_read}
use Rattle.sat_proof.proofs.Guards.{guarded_map, turned, turned_safe, turn_keeps, turn_heads}

-- the pair of an entry that watches
pub pair_of : (x : Watch) (clauses : List (List ℤ)) (e f n : ℕ) → AreTwins e f n → watched x e ≢ pos 0 → IsPaired x clauses n → IsPair (clause_at clauses n) (watched x e) (watched x f)
pair_of x clauses e f n twins some paired = elim paired [
  | inl zeros ↦ elim twins [
    | inl t ↦ absurd (some (ap (watched x) t.0 ∙ zeros.0))
    | inr t ↦ absurd (some (ap (watched x) t.0 ∙ zeros.1))
  ]
  | inr p ↦ elim twins [
    | inl t ↦ subst (λ i. IsPair (clause_at clauses n) (watched x i) (watched x f)) (sym t.0) (subst (λ i. IsPair (clause_at clauses n) (watched x (2 * n)) (watched x i)) (sym t.1) p)
    | inr t ↦ subst (λ i. IsPair (clause_at clauses n) (watched x i) (watched x f)) (sym t.0) (subst (λ i. IsPair (clause_at clauses n) (watched x (2 * n + 1)) (watched x i)) (sym t.1)
        (record { first = p.second; second = p.first; apart = λ is. p.apart (sym is) }))
  ]
]

paired_from : (x : Watch) (clauses : List (List ℤ)) (e f n : ℕ) → AreTwins e f n → IsPair (clause_at clauses n) (watched x e) (watched x f) → IsPaired x clauses n
paired_from x clauses e f n twins p = elim twins [
  | inl t ↦ inr (subst (λ i. IsPair (clause_at clauses n) (watched x i) (watched x (2 * n + 1))) t.0 (subst (λ i. IsPair (clause_at clauses n) (watched x e) (watched x i)) t.1 p))
  | inr t ↦ inr (subst (λ i. IsPair (clause_at clauses n) (watched x i) (watched x (2 * n + 1))) t.1
      (subst (λ i. IsPair (clause_at clauses n) (watched x f) (watched x i)) t.0 (record { first = p.second; second = p.first; apart = λ is. p.apart (sym is) })))
]

pub laced_turned : (old new : Trail) (x y : Watch) (clauses : List (List ℤ)) (e f n left : ℕ) → IsLaced x clauses (e + 1) left → AreTwins e f n
    → IsPair (clause_at clauses n) (watched x e) (watched x f) → All (HasRoom (length x.heads.items)) (clause_at clauses n) → e < length x.literals.items
    → IsHandled old new x y (clause_at clauses n) e f → IsLaced y clauses (e + 1) left
laced_turned old new x y clauses e f n left h twins pair room below (rests t_is y_is on) = subst (λ z. IsLaced z clauses (e + 1) left) (sym y_is) h
laced_turned old new x y clauses e f n left h twins pair room below (forces p y_is open_f rest) = subst (λ z. IsLaced z clauses (e + 1) left) (sym y_is) h
laced_turned old new x y clauses e f n left h twins pair room below (moves k t_is t free) =
    let l : ℤ = literal_at (clause_at clauses n) k in
    let here : watched y e ≡ l = ap (λ ls. slice_index_or ls e (pos 0)) t.literals ∙ get_or-set_same x.literals.items e l (pos 0) below in
    let there : (d : ℕ) → d ≢ e → watched y d ≡ watched x d =
    λ d ne. ap (λ ls. slice_index_or ls d (pos 0)) t.literals ∙ get_or-set_other x.literals.items e d l (pos 0) ne in
    let apart : f ≢ e = elim twins [ inl b ↦ (λ is. omega (arith, is, b.0, b.1)) | inr b ↦ (λ is. omega (arith, is, b.0, b.1)) ] in
    record {
      chained = turn_chained x y e left l h.chained t (room k (pos 0) free.below) below;
      used = t.used ∙ h.used;
      pairs = λ i lt. elim (cases_eq i n) [
        | inl is ↦ subst (IsPaired y clauses) (sym is) (paired_from y clauses e f n twins
            (subst (λ a. IsPair (clause_at clauses n) a (watched y f)) (sym here) (subst (IsPair (clause_at clauses n) l) (sym (there f apart))
            (record { first = Contains-get_or (clause_at clauses n) k (pos 0) free.below; second = pair.second; apart = free.differs }))))
        | inr ne ↦
            let others : (2 * i ≢ e) × (2 * i + 1 ≢ e) = elim twins [
              | inl b ↦ ((λ is. ne (omega (arith, is, b.0))), (λ is. omega (arith, is, b.0)))
              | inr b ↦ ((λ is. omega (arith, is, b.0)), (λ is. ne (omega (arith, is, b.0))))
            ] in
            subst (λ a. ((a ≡ pos 0) × (watched y (2 * i + 1) ≡ pos 0)) ⊎ IsPair (clause_at clauses i) a (watched y (2 * i + 1))) (sym (there (2 * i) others.0))
            (subst (λ a. ((watched x (2 * i) ≡ pos 0) × (a ≡ pos 0)) ⊎ IsPair (clause_at clauses i) (watched x (2 * i)) a) (sym (there (2 * i + 1) others.1)) (h.pairs i lt))
      ];
    }

-- the same pairs
pub laced_from : (x y : Watch) (clauses : List (List ℤ)) (at left at' left' : ℕ) → IsLaced x clauses at left → y.literals.items ≡ x.literals.items → y.used ≡ x.used
    → IsChained y at' left' → IsLaced y clauses at' left'
laced_from x y clauses at left at' left' h literals used chained = record {
  chained = chained;
  used = used ∙ h.used;
  pairs = λ n lt. subst (λ ls. ((slice_index_or ls (2 * n) (pos 0) ≡ pos 0) × (slice_index_or ls (2 * n + 1) (pos 0) ≡ pos 0))
      ⊎ IsPair (clause_at clauses n) (slice_index_or ls (2 * n) (pos 0)) (slice_index_or ls (2 * n + 1) (pos 0))) (sym literals) (h.pairs n lt);
}

-- the entry that was looked at is linked again
pub tracing_linked : (old now : Trail) (x y : Watch) (clauses : List (List ℤ)) (from e left : ℕ)
    → IsPropagating old now x clauses from (λ d. Leads x.nexts.items d (slice_index_or x.nexts.items e 0)) → IsChained x (e + 1) (left + 1)
    → IsLink x y e → IsPropagating old now y clauses from (λ d. Leads y.nexts.items d (slice_index_or x.nexts.items e 0))
tracing_linked old now x y clauses from e left h chained link = record {
  growth = h.growth;
  low = h.low;
  over = h.over;
  guarded = λ is_on. guarded_map x y now.marks.items now.marks.items clauses (λ d. IsSince now from (watched x d) ⊎ Leads x.nexts.items d (slice_index_or x.nexts.items e 0))
      (λ d. IsSince now from (watched y d) ⊎ Leads y.nexts.items d (slice_index_or x.nexts.items e 0)) link.literals (λ l on. on)
      (λ d lt some on was. elim (was on) [
        | inl a ↦ inl (subst (IsSince now from) (sym (ap (λ ls. slice_index_or ls d (pos 0)) link.literals)) a)
        | inr b ↦ inr (link_keeps x y e left chained link ((chained.room e (leads_below x.nexts.items x.used e (e + 1) (left + 1) chained.rest (this (e + 1) refl)) (chained.loose e (this (e + 1) refl))).own) x.counted
            (omega (arith, leads_below x.nexts.items x.used e (e + 1) (left + 1) chained.rest (this (e + 1) refl), x.in_use)) d b)
      ]) (h.guarded (sym link.on ∙ is_on));
}

-- A look at the clause of the first entry of a loose chain, as the code has it.
module _ (old now next : Trail) (x y : Watch) (clauses : List (List ℤ)) (at left : ℕ) (same_size : length now.marks.items ≡ length x.heads.items)
    (laced : IsLaced x clauses at left) (lt : 0 < left) (look : IsVisited now next x y clauses (at - 1)) where
  at_is : at ≡ at - 1 + 1
  at_is = omega (arith, (loose_entry x at left laced.chained lt).some)

  left_is : left ≡ left - 1 + 1
  left_is = omega arith

  below : at - 1 < x.used
  below = (loose_entry x at left laced.chained lt).below

  laced_here : IsLaced x clauses (at - 1 + 1) (left - 1 + 1)
  laced_here = subst (λ n. IsLaced x clauses n (left - 1 + 1)) at_is (subst (IsLaced x clauses at) left_is laced)

  room_here : All (HasRoom (length x.heads.items)) (clause_at clauses look.owner)
  room_here = subst (λ n. All (HasRoom n) (clause_at clauses look.owner)) same_size look.room

  turned_laced : IsLaced y clauses (at - 1 + 1) (left - 1 + 1)
  turned_laced = laced_turned now next x y clauses (at - 1) look.twin look.owner (left - 1 + 1) laced_here look.twins look.pair room_here
      (omega (arith, below, x.in_use, x.literal_each)) look.turn

  pub looked_laced : IsLaced y clauses at left
  looked_laced = subst (λ n. IsLaced y clauses n left) (sym at_is) (subst (IsLaced y clauses (at - 1 + 1)) (sym left_is) turned_laced)

  pub looked_heads : length y.heads.items ≡ length x.heads.items
  looked_heads = turn_heads now next x y (clause_at clauses look.owner) (at - 1) look.twin look.turn

  looked_next : slice_index_or y.nexts.items (at - 1) 0 ≡ slice_index_or x.nexts.items (at - 1) 0
  looked_next = ap (λ ns. slice_index_or ns (at - 1) 0) (turn_keeps now next x y (clause_at clauses look.owner) (at - 1) look.twin look.turn).0

  pub looked_on : y.on ≡ x.on
  looked_on = (turn_keeps now next x y (clause_at clauses look.owner) (at - 1) look.twin look.turn).2

  module _ (z : Watch) (link : IsLink y z (at - 1)) (after : ℕ) (after_is : after ≡ slice_index_or x.nexts.items (at - 1) 0) where
    pub walked_laced : IsLaced z clauses after (left - 1)
    walked_laced = laced_from y z clauses at left after (left - 1) looked_laced link.literals link.used
        (link_loose y z at left after looked_laced.chained lt link (after_is ∙ sym looked_next))

    pub walked_tracing : (from : ℕ) → IsPropagating old now x clauses from (λ d. Leads x.nexts.items d at) → IsPropagating old next z clauses from (λ d. Leads z.nexts.items d after)
    walked_tracing from h = subst (λ n. IsPropagating old next z clauses from (λ d. Leads z.nexts.items d n)) (looked_next ∙ sym after_is)
        (tracing_linked old next y z clauses from (at - 1) (left - 1)
        (turned old now x clauses from (at - 1) look.twin look.owner (subst (λ n. IsPropagating old now x clauses from (λ d. Leads x.nexts.items d n)) at_is h)
        look.below look.twins look.pair look.room (omega (arith, below, x.in_use, x.literal_each)) next y look.turn)
        turned_laced.chained link)

    pub walked_safe : (base : List Bool) (from : ℕ) → IsPropagating old now x clauses from (λ d. Leads x.nexts.items d at) → IsMarkedWithin base (held old) → AreSafe x base clauses
        → AreSafe z base clauses
    walked_safe base from h within safe = guarded_map y z base base clauses (λ _. ⊥) (λ _. ⊥) link.literals (λ l on. on) (λ e e_lt some on was. was on)
        (turned_safe old now x clauses from (at - 1) look.twin look.owner (subst (λ n. IsPropagating old now x clauses from (λ d. Leads x.nexts.items d n)) at_is h)
        look.below look.twins look.pair look.room (omega (arith, below, x.in_use, x.literal_each)) next y base look.turn (λ l on. h.growth.grows l (within l on)) safe)

-- the same watched literals, the same safety
pub safe_same : (x y : Watch) (base : List Bool) (clauses : List (List ℤ)) → y.literals.items ≡ x.literals.items → AreSafe x base clauses → AreSafe y base clauses
safe_same x y base clauses same safe = guarded_map x y base base clauses (λ _. ⊥) (λ _. ⊥) same (λ l on. on) (λ e e_lt some on was. was on) safe

-- a clause that is false
pub any_refuted : (old now : List Bool) (clauses : List (List ℤ)) → IsGrowth old now clauses → IsAnyFalse (is_false now) clauses → AreRefuted old clauses
any_refuted old now clauses g (n, lt, bad) = refuted_by old now clauses (clause_at clauses n) g (clause_in clauses n lt) bad

-- no entry waits any more
pub tracing_walked : (old now : Trail) (x : Watch) (clauses : List (List ℤ)) (from at left : ℕ) → IsPropagating old now x clauses from (λ d. Leads x.nexts.items d at)
    → IsChained x at left → left ≡ 0 → IsPropagating old now x clauses from (λ _. ⊥)
tracing_walked old now x clauses from at left h chained z = record {
  growth = h.growth;
  low = h.low;
  over = h.over;
  guarded = λ is_on. guarded_map x x now.marks.items now.marks.items clauses (λ d. IsSince now from (watched x d) ⊎ Leads x.nexts.items d at)
      (λ d. IsSince now from (watched x d) ⊎ ⊥) refl (λ l on. on)
      (λ d lt some on was. elim (was on) [
        | inl a ↦ inl a
        | inr b ↦ absurd (leads_none x.nexts.items d at (ends_at x.nexts.items x.used at left chained.rest z) b)
      ]) (h.guarded is_on);
}

-- what was reached is a start
pub tracing_again : (old now : Trail) (x : Watch) (clauses : List (List ℤ)) (from : ℕ) (Waits : ℕ → Type 0) → IsPropagating old now x clauses from Waits → IsPropagating now now x clauses from Waits
tracing_again old now x clauses from Waits h = record {
  growth = growth_none now.marks.items clauses h.growth.consistent;
  low = h.low;
  over = λ base b o. o;
  guarded = h.guarded;
}

pub tracing_more : (old now new : Trail) (x y : Watch) (clauses : List (List ℤ)) (from after : ℕ) (Waits Waits' : ℕ → Type 0) → IsPropagating old now x clauses from Waits
    → IsPropagating now new y clauses after Waits' → IsPropagating old new y clauses after Waits'
tracing_more old now new x y clauses from after Waits Waits' g h = record {
  growth = growth_more old.marks.items now.marks.items new.marks.items clauses g.growth h.growth;
  low = h.low;
  over = λ base b o. h.over base b (g.over base b o);
  guarded = h.guarded;
}

-- A literal of the trail is read: its chain is taken off, and waits.
module _ (old now next : Trail) (x y : Watch) (clauses : List (List ℤ)) (code : ℕ) (h : IsPropagating old now x clauses now.read (λ _. ⊥))
    (laced : IsLaced x clauses 0 0) (lt : now.read < now.len) (r : IsRead now next) (d : IsDetached x y code) (code_is : code ≡ code_at now now.read) where
  read_late : (e : ℕ) → e < 2 * length clauses → watched x e ≢ pos 0 → IsSince now now.read (watched x e) ⊎ ⊥
      → IsSince next next.read (watched y e) ⊎ Leads y.nexts.items e (head_of x code)
  read_late e e_lt some late = elim late [
    | inl a ↦
        let (j, low, high, is) = a in
        let same : watched x e ≡ watched y e = sym (ap (λ ls. slice_index_or ls e (pos 0)) d.literals) in
        elim (cases_eq j now.read) [
          | inl now_read ↦ elim (laced.chained.all e (omega (arith, laced.used)) some) [
            | inl b ↦ inr (subst (λ ns. Leads ns e (head_of x code)) (sym d.nexts)
                (subst (λ c. Leads x.nexts.items e (head_of x c)) (sym is ∙ ap (code_at now) now_read ∙ sym code_is) b))
            | inr b ↦ absurd (leads_none x.nexts.items e 0 refl b)
          ]
          | inr ne ↦ inl (j, omega (arith, r.read), omega (arith, r.len), ap (λ cs. slice_index_or cs j 0) r.codes ∙ is ∙ ap code_of same)
        ]
    | inr no_one ↦ absurd no_one
  ]

  pub tracing_read : IsPropagating old next y clauses next.read (λ e. Leads y.nexts.items e (head_of x code))
  tracing_read = record {
    growth = subst (λ (ms : List Bool). IsGrowth old.marks.items ms clauses) (sym r.marks) h.growth;
    low = omega (arith, r.len, r.read);
    over = λ base b o. over_read base b now next r.marks r.codes r.len (h.over base b o);
    guarded = λ is_on. guarded_map x y now.marks.items next.marks.items clauses (λ e. IsSince now now.read (watched x e) ⊎ ⊥)
        (λ e. IsSince next next.read (watched y e) ⊎ Leads y.nexts.items e (head_of x code)) d.literals
        (λ l on. subst (λ (ms : List Bool). is_false ms l ≡ true) (sym r.marks) on)
        (λ e e_lt some on was. read_late e e_lt some (was (subst (λ (ms : List Bool). is_false ms (watched x e) ≡ true) r.marks on))) (h.guarded (sym d.on ∙ is_on));
  }

  pub detached_laced : code < length x.heads.items → code < length x.counts.items → IsLaced y clauses (head_of x code) (count_of x code)
  detached_laced room counted = laced_from x y clauses 0 0 (head_of x code) (count_of x code) laced d.literals d.used (detach_chained x y code laced.chained d room counted)

-- nothing is late at the trail's end
pub safe_end : (old now : Trail) (x : Watch) (clauses : List (List ℤ)) (from : ℕ) → IsPropagating old now x clauses from (λ _. ⊥) → x.on ≡ true → now.len ≡ from
    → AreSafe x now.marks.items clauses
safe_end old now x clauses from h is_on e = guarded_map x x now.marks.items now.marks.items clauses (λ d. IsSince now from (watched x d) ⊎ ⊥) (λ _. ⊥) refl (λ l on. on)
    (λ d lt some on was. elim (was on) [
      | inl a ↦ let (j, low, high, is) = a in omega arith
      | inr b ↦ b
    ]) (h.guarded is_on)

-- clauses that are safe are quiet
pub quiet_safe : (x : Watch) (marks : List Bool) (clauses : List (List ℤ)) (at left : ℕ) → IsConsistent marks → IsLaced x clauses at left → AreSafe x marks clauses
    → All (IsQuiet (is_false marks)) clauses
quiet_safe x marks clauses at left apart laced safe = All-from_get_or (IsQuiet (is_false marks)) clauses [] (λ n lt. elim (safe n lt) [
  | inl a ↦ let (l, here, on) = a in quiet_by_true (is_false marks) (clause_at clauses n) l (λ off. apart l off on) here on
  | inr b ↦
      let p : IsPair (clause_at clauses n) (watched x (2 * n)) (watched x (2 * n + 1)) = pair_of x clauses (2 * n) (2 * n + 1) n (inl (refl, refl)) b.some (laced.pairs n lt) in
      quiet_by_two (is_false marks) (clause_at clauses n) (watched x (2 * n)) (watched x (2 * n + 1)) p.first p.second p.apart
      (by_not_true (is_false marks (watched x (2 * n))) b.first) (by_not_true (is_false marks (watched x (2 * n + 1))) b.second)
])
