-- Watched literals: what a look at a clause keeps.
use Rattle.std.proofs.Common.{◌≡◌, ◌≢◌, ℕ, ◌<◌, ◌+◌, ◌*◌, Bool, true, false, List, length, ap, sym, refl, ◌∙◌, ◌⊎◌, inl, inr, set, slice_index_or, arith, subst}
use Rattle.std.proofs.lemmas.Bool.{cases_eq, false≢true}
use Rattle.std.proofs.lemmas.List.{get_or-set_other, get_or-set_same, get_or_default}
use Rattle.std.proofs.lemmas.List.Elements.{All-from_get_or}
use Rattle.std.specs.Prelude.{ℤ, pos, neg_ℤ}
use Rattle.std.specs.List.{All}
use Rattle.sat_proof.specs.Closed.{IsFalse}
use Rattle.sat_proof.specs.Code.{code_of, is_false, HasRoom, IsMarkedWithin}
use Rattle.sat_proof.specs.Guard.{AreGuarded, AreSafe, IsSince, IsPropagating, AreRestFalse, IsFree, IsHandled, rests, moves, forces}
use Rattle.sat_proof.specs.Log.{clause_at}
use Rattle.sat_proof.specs.Status.{literal_at, Holds, IsOpen, IsOnlyOpen}
use Rattle.sat_proof.specs.Propagation.{IsGrowth}
use Rattle.sat_proof.specs.Trail.{held, IsPush}
use Rattle.sat_proof.specs.Watch.{Leads, watched, IsPair, IsMoved, AreTwins}
use Rattle.sat_proof.specs.declared.trail.Trail.{Trail}
use Rattle.sat_proof.specs.declared.watch.Watch.{Watch}
use Rattle.sat_proof.proofs.Codes.{literal_cases, room_other, marked_cases, marked_same}
use Rattle.sat_proof.proofs.Links.{first_or_later}
use Rattle.sat_proof.proofs.Runs.{growth_more, growth_step, clause_in}
use Rattle.sat_proof.proofs.Trails.{over_push, code_new, code_kept}

pub false_by_rest : (marks : List Bool) (clause : List ℤ) (other : ℤ) → is_false marks other ≡ true → AreRestFalse marks clause other → IsFalse (is_false marks) clause
false_by_rest marks clause other on rest = All-from_get_or (λ l. is_false marks l ≡ true) clause (pos 0)
    (λ i lt. elim (literal_cases (literal_at clause i) other) [ inl e ↦ ap (is_false marks) e ∙ on | inr ne ↦ rest i lt ne ])

-- more marks
holds_more : (marks more : List Bool) (clause : List ℤ) → ((l : ℤ) → is_false marks l ≡ true → is_false more l ≡ true) → Holds marks clause → Holds more clause
holds_more marks more clause grows (l, here, on) = (l, here, grows (neg_ℤ l) on)

-- the same watched literals
pub guarded_map : (x y : Watch) (marks more : List Bool) (clauses : List (List ℤ)) (Late Late' : ℕ → Type 0) → y.literals.items ≡ x.literals.items
    → ((l : ℤ) → is_false marks l ≡ true → is_false more l ≡ true)
    → ((e : ℕ) → e < 2 * length clauses → watched x e ≢ pos 0 → is_false more (watched x e) ≡ true → (is_false marks (watched x e) ≡ true → Late e) → Late' e)
    → AreGuarded x marks clauses Late → AreGuarded y more clauses Late'
guarded_map x y marks more clauses Late Late' same grows late h n lt =
    let is : (e : ℕ) → watched y e ≡ watched x e = λ e. ap (λ ls. slice_index_or ls e (pos 0)) same in
    elim (h n lt) [
      | inl a ↦ inl (holds_more marks more (clause_at clauses n) grows a)
      | inr b ↦ inr (record {
        some = λ z. b.some (sym (is (2 * n)) ∙ z);
        other = λ z. b.other (sym (is (2 * n + 1)) ∙ z);
        first = λ on. late (2 * n) (omega arith) b.some (ap (is_false more) (sym (is (2 * n))) ∙ on) b.first;
        second = λ on. late (2 * n + 1) (omega arith) b.other (ap (is_false more) (sym (is (2 * n + 1))) ∙ on) b.second;
      })
    ]

-- an entry watches another literal, which isn't false
pub guarded_turned : (x y : Watch) (marks : List Bool) (clauses : List (List ℤ)) (Late Late' : ℕ → Type 0) (e : ℕ) (l : ℤ) → IsMoved x y e l
    → e < length x.literals.items → l ≢ pos 0 → (is_false marks l ≡ true → ⊥) → ((d : ℕ) → d ≢ e → Late d → Late' d)
    → AreGuarded x marks clauses Late → AreGuarded y marks clauses Late'
guarded_turned x y marks clauses Late Late' e l t below some off late h n lt =
    let here : (d : ℕ) → d ≡ e → watched y d ≡ l =
    λ d is. ap (watched y) is ∙ ap (λ ls. slice_index_or ls e (pos 0)) t.literals ∙ get_or-set_same x.literals.items e l (pos 0) below in
    let there : (d : ℕ) → d ≢ e → watched y d ≡ watched x d =
    λ d ne. ap (λ ls. slice_index_or ls d (pos 0)) t.literals ∙ get_or-set_other x.literals.items e d l (pos 0) ne in
    let set_one : (d : ℕ) → watched x d ≢ pos 0 → watched y d ≢ pos 0 =
    λ d was z. elim (cases_eq d e) [ inl is ↦ some (sym (here d is) ∙ z) | inr ne ↦ was (sym (there d ne) ∙ z) ] in
    let late_one : (d : ℕ) → (is_false marks (watched x d) ≡ true → Late d) → is_false marks (watched y d) ≡ true → Late' d =
    λ d was on. elim (cases_eq d e) [
      | inl is ↦ absurd (off (ap (is_false marks) (sym (here d is)) ∙ on))
      | inr ne ↦ late d ne (was (ap (is_false marks) (sym (there d ne)) ∙ on))
    ] in
    elim (h n lt) [
      | inl a ↦ inl a
      | inr b ↦ inr (record {
        some = set_one (2 * n) b.some;
        other = set_one (2 * n + 1) b.other;
        first = late_one (2 * n) b.first;
        second = late_one (2 * n + 1) b.second;
      })
    ]

-- one of the clauses is true
pub guarded_holds : (x : Watch) (marks : List Bool) (clauses : List (List ℤ)) (Late Late' : ℕ → Type 0) (e f n : ℕ) → AreTwins e f n
    → Holds marks (clause_at clauses n) → ((d : ℕ) → d ≢ e → Late d → Late' d) → AreGuarded x marks clauses Late → AreGuarded x marks clauses Late'
guarded_holds x marks clauses Late Late' e f n twins true_here late h i lt = elim (cases_eq i n) [
  | inl is ↦ inl (subst (λ m. Holds marks (clause_at clauses m)) (sym is) true_here)
  | inr ne ↦
      let apart : (2 * i ≢ e) × (2 * i + 1 ≢ e) = elim twins [
        | inl t ↦ ((λ is. ne (omega (arith, is, t.0))), (λ is. omega (arith, is, t.0)))
        | inr t ↦ ((λ is. omega (arith, is, t.0)), (λ is. ne (omega (arith, is, t.0))))
      ] in
      elim (h i lt) [
        | inl a ↦ inl a
        | inr b ↦ inr (record {
          some = b.some;
          other = b.other;
          first = λ on. late (2 * i) apart.0 (b.first on);
          second = λ on. late (2 * i + 1) apart.1 (b.second on);
        })
      ]
]

pub since_push : (old new : Trail) (code from : ℕ) (l : ℤ) → code < length old.marks.items → slice_index_or old.marks.items code false ≡ false → IsPush old new code
    → IsSince old from l → IsSince new from l
since_push old new code from l lt off p (j, low, high, e) = (j, low, omega (arith, p.len), code_kept old new code lt off p j (omega arith) ∙ e)

-- A look at the clause of entry e, the first loose one.
module _ (old now : Trail) (x : Watch) (clauses : List (List ℤ)) (from e f n : ℕ) (h : IsPropagating old now x clauses from (λ d. Leads x.nexts.items d (e + 1)))
    (lt : n < length clauses) (twins : AreTwins e f n) (pair : IsPair (clause_at clauses n) (watched x e) (watched x f))
    (room : All (HasRoom (length now.marks.items)) (clause_at clauses n)) (below : e < length x.literals.items) where
  abbrev Late : Trail → Watch → ℕ → Type 0
  Late t y d = IsSince t from (watched y d) ⊎ Leads y.nexts.items d (e + 1)

  abbrev Late' : Trail → Watch → ℕ → Type 0
  Late' t y d = IsSince t from (watched y d) ⊎ Leads y.nexts.items d (slice_index_or y.nexts.items e 0)

  less_late : (t : Trail) (d : ℕ) → d ≢ e → Late t x d → Late' t x d
  less_late t d ne late = elim late [
    | inl a ↦ inl a
    | inr b ↦ elim (first_or_later x.nexts.items d e b) [ inl is ↦ absurd (ne is) | inr rest ↦ inr rest ]
  ]

  -- the clause is true already
  turned_rests : is_false now.marks.items (neg_ℤ (watched x f)) ≡ true → IsPropagating old now x clauses from (λ d. Leads x.nexts.items d (slice_index_or x.nexts.items e 0))
  turned_rests on = record {
    growth = h.growth;
    low = h.low;
    over = h.over;
    guarded = λ is_on. guarded_holds x now.marks.items clauses (Late now x) (Late' now x) e f n twins (watched x f, pair.second, on) (less_late now) (h.guarded is_on);
  }

  -- the entry watches another literal
  turned_moves : (y : Watch) (k : ℕ) → IsMoved x y e (literal_at (clause_at clauses n) k) → IsFree now.marks.items (clause_at clauses n) (watched x f) k
      → IsPropagating old now y clauses from (λ d. Leads y.nexts.items d (slice_index_or y.nexts.items e 0))
  turned_moves y k t free =
      let l : ℤ = literal_at (clause_at clauses n) k in
      let r : HasRoom (length now.marks.items) l = room k (pos 0) free.below in
      record {
        growth = h.growth;
        low = h.low;
        over = h.over;
        guarded = λ is_on. guarded_turned x y now.marks.items clauses (Late now x) (Late' now y) e l t below r.nonzero (λ on. false≢true (sym free.free ∙ on))
            (λ d ne late. elim (less_late now d ne late) [
              | inl a ↦ inl (subst (IsSince now from) (sym (ap (λ ls. slice_index_or ls d (pos 0)) t.literals ∙ get_or-set_other x.literals.items e d l (pos 0) ne)) a)
              | inr b ↦ inr (subst (λ ns. Leads ns d (slice_index_or ns e 0)) (sym t.nexts) b)
            ]) (h.guarded (sym t.on ∙ is_on));
      }

  -- the clause's last literal becomes true
  turned_forces : (next : Trail) → IsPush now next (code_of (neg_ℤ (watched x f))) → IsOpen now.marks.items (watched x f) → AreRestFalse now.marks.items (clause_at clauses n) (watched x f)
      → IsPropagating old next x clauses from (λ d. Leads x.nexts.items d (slice_index_or x.nexts.items e 0))
  turned_forces next p open_f rest =
      let l : ℤ = watched x f in
      let c : List ℤ = clause_at clauses n in
      let (k, k_lt, k_is) = pair.second in
      let at_k : literal_at c k ≡ l = get_or_default c k (pos 0) l k_lt ∙ k_is in
      let r : HasRoom (length now.marks.items) l = subst (HasRoom (length now.marks.items)) at_k (room k (pos 0) k_lt) in
      let other : HasRoom (length now.marks.items) (neg_ℤ l) = room_other (length now.marks.items) l r in
      let only : IsOnlyOpen now.marks.items c (length c) k = record {
        below = k_lt;
        is_open = subst (IsOpen now.marks.items) (sym at_k) open_f;
        others = λ i i_lt ne. rest i i_lt (λ is. ne (is ∙ sym at_k));
      } in
      let step : IsGrowth now.marks.items next.marks.items clauses = subst (λ (ms : List Bool). IsGrowth now.marks.items ms clauses)
      (ap (λ m. set now.marks.items (code_of (neg_ℤ m)) true) at_k ∙ sym p.marks)
      (growth_step now.marks.items clauses c k h.growth.consistent (clause_in clauses n lt) only (room k (pos 0) k_lt)) in
      record {
        growth = growth_more old.marks.items now.marks.items next.marks.items clauses h.growth step;
        low = omega (arith, p.len, h.low);
        over = λ base b o. over_push now next (code_of (neg_ℤ l)) other.own open_f.1 p base b (h.over base b o);
        guarded = λ is_on. guarded_holds x next.marks.items clauses (Late next x) (Late' next x) e f n twins
            (l, pair.second, subst (λ (ms : List Bool). is_false ms (neg_ℤ l) ≡ true) (sym p.marks) (marked_same now.marks.items (neg_ℤ l) other.own)) (less_late next)
            (guarded_map x x now.marks.items next.marks.items clauses (Late now x) (Late next x) refl (λ m on. step.grows m on)
            (λ d d_lt some on was. elim (marked_cases now.marks.items (neg_ℤ l) (watched x d) other.own (subst (λ (ms : List Bool). is_false ms (watched x d) ≡ true) p.marks on)) [
              | inl a ↦ elim (was a) [
                | inl s ↦ inl (since_push now next (code_of (neg_ℤ l)) from (watched x d) other.own open_f.1 p s)
                | inr w ↦ inr w
              ]
              | inr is ↦ inl (now.len, h.low, omega (arith, p.len), code_new now next (code_of (neg_ℤ l)) other.own open_f.1 p ∙ ap code_of (sym is))
            ]) (h.guarded is_on));
      }

  pub turned : (next : Trail) (y : Watch) → IsHandled now next x y (clause_at clauses n) e f
      → IsPropagating old next y clauses from (λ d. Leads y.nexts.items d (slice_index_or y.nexts.items e 0))
  turned next y (rests t_is y_is on) = subst (λ t. IsPropagating old t y clauses from (λ d. Leads y.nexts.items d (slice_index_or y.nexts.items e 0))) (sym t_is)
      (subst (λ z. IsPropagating old now z clauses from (λ d. Leads z.nexts.items d (slice_index_or z.nexts.items e 0))) (sym y_is) (turned_rests on))
  turned next y (moves k t_is t free) = subst (λ t. IsPropagating old t y clauses from (λ d. Leads y.nexts.items d (slice_index_or y.nexts.items e 0))) (sym t_is) (turned_moves y k t free)
  turned next y (forces p y_is open_f rest) = subst (λ z. IsPropagating old next z clauses from (λ d. Leads z.nexts.items d (slice_index_or z.nexts.items e 0))) (sym y_is) (turned_forces next p open_f rest)

  -- what was safe under fewer marks stays so
  pub turned_safe : (next : Trail) (y : Watch) (base : List Bool) → IsHandled now next x y (clause_at clauses n) e f → IsMarkedWithin base (held now)
      → AreSafe x base clauses → AreSafe y base clauses
  turned_safe next y base (rests t_is y_is on) within safe = subst (λ z. AreSafe z base clauses) (sym y_is) safe
  turned_safe next y base (moves k t_is t free) within safe =
      guarded_turned x y base clauses (λ _. ⊥) (λ _. ⊥) e (literal_at (clause_at clauses n) k) t below (room k (pos 0) free.below).nonzero
      (λ on. false≢true (sym free.free ∙ within (literal_at (clause_at clauses n) k) on)) (λ d ne no_one. no_one) safe
  turned_safe next y base (forces p y_is open_f rest) within safe = subst (λ z. AreSafe z base clauses) (sym y_is) safe

pub turn_keeps : (old new : Trail) (x y : Watch) (clause : List ℤ) (e f : ℕ) → IsHandled old new x y clause e f
    → (y.nexts.items ≡ x.nexts.items) × (y.used ≡ x.used) × (y.on ≡ x.on)
turn_keeps old new x y clause e f (rests t_is y_is on) = (ap (λ z. z.nexts.items) y_is, ap (λ z. z.used) y_is, ap (λ z. z.on) y_is)
turn_keeps old new x y clause e f (moves k t_is t free) = (t.nexts, t.used, t.on)
turn_keeps old new x y clause e f (forces p y_is open_f rest) = (ap (λ z. z.nexts.items) y_is, ap (λ z. z.used) y_is, ap (λ z. z.on) y_is)

pub turn_heads : (old new : Trail) (x y : Watch) (clause : List ℤ) (e f : ℕ) → IsHandled old new x y clause e f → length y.heads.items ≡ length x.heads.items
turn_heads old new x y clause e f (rests t_is y_is on) = ap (λ z. length z.heads.items) y_is
turn_heads old new x y clause e f (moves k t_is t free) = ap length t.heads
turn_heads old new x y clause e f (forces p y_is open_f rest) = ap (λ z. length z.heads.items) y_is
