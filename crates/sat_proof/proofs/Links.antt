-- Chains of watches: an entry is put at the head of one.
use Rattle.std.proofs.Common.{◌≡◌, ◌≢◌, ℕ, ◌<◌, ◌≤◌, ◌+◌, ◌-◌, List, length, ap, sym, refl, ◌∙◌, ◌⊎◌, inl, inr, set, slice_index_or, arith, subst}
use Rattle.std.proofs.lemmas.Bool.{cases_eq}
use Rattle.std.proofs.lemmas.List.{get_or-set_other, get_or-set_same, length-set}
use Rattle.std.proofs.lemmas.List.Sums.{sum_by-set, get_or-le-sum_by}
use Rattle.std.specs.Prelude.{pos}
use Rattle.std.specs.List.{sum_by}
use Rattle.sat_proof.specs.Code.{code_of, HasRoom}
use Rattle.sat_proof.specs.Watch.{Leads, this, later, Ends, none, more, head_of, count_of, watched, linked, IsChained, IsLoose, IsLink}
use Rattle.sat_proof.specs.declared.watch.Watch.{Watch}

-- a write at an entry that a chain doesn't have leaves the chain alone
pub leads_kept : (nexts : List ℕ) (e v d head : ℕ) → Leads nexts d head → (Leads nexts e head → ⊥) → Leads (set nexts e v) d head
leads_kept nexts e v d head (this h is) off = this h is
leads_kept nexts e v d head (later h i is rest) off =
    let ne : i ≢ e = λ same. off (this h (omega (arith, same))) in
    later h i is (subst (Leads (set nexts e v) d) (sym (get_or-set_other nexts e i v 0 ne))
    (leads_kept nexts e v d (slice_index_or nexts i 0) rest (λ there. off (later h i is there))))

leads_from : (nexts : List ℕ) (e v d head at : ℕ) → Leads (set nexts e v) d head → head ≡ at → (Leads nexts e at → ⊥) → Leads nexts d at
leads_from nexts e v d head at (this h is) same off = this at (sym same ∙ is)
leads_from nexts e v d head at (later h i is rest) same off =
    let ne : i ≢ e = λ e'. off (this at (omega (arith, e'))) in
    later at i (sym same ∙ is) (leads_from nexts e v d (slice_index_or (set nexts e v) i 0) (slice_index_or nexts i 0) rest
    (get_or-set_other nexts e i v 0 ne) (λ there. off (later at i (sym same ∙ is) there)))

pub leads_back : (nexts : List ℕ) (e v d head : ℕ) → Leads (set nexts e v) d head → (Leads nexts e head → ⊥) → Leads nexts d head
leads_back nexts e v d head there off = leads_from nexts e v d head head there refl off

pub ends_kept : (nexts : List ℕ) (e v bound head count : ℕ) → Ends nexts bound head count → (Leads nexts e head → ⊥) → Ends (set nexts e v) bound head count
ends_kept nexts e v bound head count (none h k a b) off = none h k a b
ends_kept nexts e v bound head count (more h c i k is at lt rest) off =
    let ne : i ≢ e = λ same. off (this h (omega (arith, same))) in
    more h c i k is at lt (subst (λ n. Ends (set nexts e v) bound n k) (sym (get_or-set_other nexts e i v 0 ne))
    (ends_kept nexts e v bound (slice_index_or nexts i 0) k rest (λ there. off (later h i is there))))

pub ends_wider : (nexts : List ℕ) (small large head count : ℕ) → small ≤ large → Ends nexts small head count → Ends nexts large head count
ends_wider nexts small large head count le (none h k a b) = none h k a b
ends_wider nexts small large head count le (more h c i k is at lt rest) = more h c i k is at (omega arith) (ends_wider nexts small large (slice_index_or nexts i 0) k le rest)

-- the count of a chain
ends_one : (nexts : List ℕ) (bound head j k : ℕ) → Ends nexts bound head j → Ends nexts bound head k → j ≡ k
ends_one nexts bound head j k (none h c a b) (none h' c' a' b') = omega arith
ends_one nexts bound head j k (none h c a b) (more h' c' i l is at lt rest) = absurd (omega arith)
ends_one nexts bound head j k (more h c i l is at lt rest) (none h' c' a' b') = absurd (omega arith)
ends_one nexts bound head j k (more h c i l is at lt rest) (more h' c' i' l' is' at' lt' rest') =
    let same : i' ≡ i = omega arith in
    let deep : l ≡ l' = ends_one nexts bound (slice_index_or nexts i 0) l l' rest (subst (λ n. Ends nexts bound (slice_index_or nexts n 0) l') same rest') in
    omega arith

ends_from : (nexts : List ℕ) (bound e head count : ℕ) → Ends nexts bound head count → Leads nexts e head → (k : ℕ) × (k ≤ count) × Ends nexts bound (e + 1) k
ends_from nexts bound e head count ends (this h is) = (count, omega arith, subst (λ n. Ends nexts bound n count) is ends)
ends_from nexts bound e head count (none h k a b) (later h' i is rest) = absurd (omega arith)
ends_from nexts bound e head count (more h c i k is at lt rest) (later h' i' is' there) =
    let same : i' ≡ i = omega arith in
    let (k', le, deep) = ends_from nexts bound e (slice_index_or nexts i 0) k rest (subst (λ n. Leads nexts e (slice_index_or nexts n 0)) same there) in
    (k', omega arith, deep)

pub leads_below : (nexts : List ℕ) (bound e head count : ℕ) → Ends nexts bound head count → Leads nexts e head → e < bound
leads_below nexts bound e head count ends there = elim (ends_from nexts bound e head count ends there).2 [
  | none h k a b ↦ absurd (omega arith)
  | more h c i k is at lt rest ↦ omega arith
]

pub leads_none : (nexts : List ℕ) (e head : ℕ) → head ≡ 0 → Leads nexts e head → ⊥
leads_none nexts e head z (this h is) = omega arith
leads_none nexts e head z (later h i is rest) = omega arith

-- what is left of a chain behind its first entry
pub record IsFirst (nexts : List ℕ) (bound e left : ℕ) : Type 0 where
  pub below : e < bound
  pub some : 0 < left
  pub rest : (k : ℕ) → left ≡ k + 1 → Ends nexts bound (slice_index_or nexts e 0) k
  pub apart : Leads nexts e (slice_index_or nexts e 0) → ⊥

pub first_of : (nexts : List ℕ) (bound e left : ℕ) → Ends nexts bound (e + 1) left → IsFirst nexts bound e left
first_of nexts bound e left (none h k a b) = absurd (omega arith)
first_of nexts bound e left (more h c i k is at lt rest) =
    let same : i ≡ e = omega arith in
    let behind : Ends nexts bound (slice_index_or nexts e 0) k = subst (λ n. Ends nexts bound (slice_index_or nexts n 0) k) same rest in
    record {
      below = omega arith;
      some = omega arith;
      rest = λ k' e'. subst (Ends nexts bound (slice_index_or nexts e 0)) (let f : k ≡ k' = omega arith in f) behind;
      apart = λ there.
          let (k', le, deep) = ends_from nexts bound e (slice_index_or nexts e 0) k behind there in
          let whole : Ends nexts bound (e + 1) (k + 1) = more (e + 1) (k + 1) e k refl refl (omega arith) behind in
          let one : k' ≡ k + 1 = ends_one nexts bound (e + 1) k' (k + 1) deep whole in omega arith;
    }

pub first_or_later : (nexts : List ℕ) (d e : ℕ) → Leads nexts d (e + 1) → (d ≡ e) ⊎ Leads nexts d (slice_index_or nexts e 0)
first_or_later nexts d e (this h is) = inl (omega arith)
first_or_later nexts d e (later h i is rest) = let same : i ≡ e = omega arith in inr (subst (λ n. Leads nexts d (slice_index_or nexts n 0)) same rest)

-- The first loose entry joins its literal's chain.
module _ (old new : Watch) (e left : ℕ) (h : IsChained old (e + 1) (left + 1)) (link : IsLink old new e)
    (room : code_of (watched old e) < length old.heads.items) (counted : length old.counts.items ≡ length old.heads.items) (left_room : e < length old.nexts.items) where
  code : ℕ
  code = code_of (watched old e)

  next : ℕ
  next = slice_index_or old.nexts.items e 0

  first : IsFirst old.nexts.items old.used e (left + 1)
  first = first_of old.nexts.items old.used e (left + 1) h.rest

  head_same : head_of new (code_of (watched old e)) ≡ e + 1
  head_same = ap (λ hs. slice_index_or hs (code_of (watched old e)) 0) link.heads ∙ get_or-set_same old.heads.items (code_of (watched old e)) (e + 1) 0 room

  head_other : (c : ℕ) → c ≢ code_of (watched old e) → head_of new c ≡ head_of old c
  head_other c ne = ap (λ hs. slice_index_or hs c 0) link.heads ∙ get_or-set_other old.heads.items (code_of (watched old e)) c (e + 1) 0 ne

  count_same : count_of new (code_of (watched old e)) ≡ count_of old (code_of (watched old e)) + 1
  count_same = ap (λ hs. slice_index_or hs (code_of (watched old e)) 0) link.counts
      ∙ get_or-set_same old.counts.items (code_of (watched old e)) (count_of old (code_of (watched old e)) + 1) 0 (omega (arith, room, counted))

  count_other : (c : ℕ) → c ≢ code_of (watched old e) → count_of new c ≡ count_of old c
  count_other c ne = ap (λ hs. slice_index_or hs c 0) link.counts ∙ get_or-set_other old.counts.items (code_of (watched old e)) c (count_of old (code_of (watched old e)) + 1) 0 ne

  next_same : slice_index_or new.nexts.items e 0 ≡ head_of old (code_of (watched old e))
  next_same = ap (λ ns. slice_index_or ns e 0) link.nexts ∙ get_or-set_same old.nexts.items e (head_of old (code_of (watched old e))) 0 left_room

  same_watch : (d : ℕ) → watched new d ≡ watched old d
  same_watch d = ap (λ ls. slice_index_or ls d (pos 0)) link.literals

  off_chain : (c : ℕ) → Leads old.nexts.items e (head_of old c) → ⊥
  off_chain c there = h.apart c e there (this (e + 1) refl)

  keep : (d head : ℕ) → (Leads old.nexts.items e head → ⊥) → Leads old.nexts.items d head → Leads new.nexts.items d head
  keep d head off there = subst (λ ns. Leads ns d head) (sym link.nexts) (leads_kept old.nexts.items e (head_of old (code_of (watched old e))) d head there off)

  back : (d head : ℕ) → (Leads old.nexts.items e head → ⊥) → Leads new.nexts.items d head → Leads old.nexts.items d head
  back d head off there = leads_back old.nexts.items e (head_of old (code_of (watched old e))) d head (subst (λ ns. Leads ns d head) link.nexts there) off

  keep_ends : (head count : ℕ) → (Leads old.nexts.items e head → ⊥) → Ends old.nexts.items old.used head count → Ends new.nexts.items new.used head count
  keep_ends head count off ends = subst (λ ns. Ends ns new.used head count) (sym link.nexts) (subst (λ b. Ends (set old.nexts.items e (head_of old (code_of (watched old e)))) b head count) (sym link.used)
      (ends_kept old.nexts.items e (head_of old (code_of (watched old e))) old.used head count ends off))

  -- where an entry of the new chains stood
  stood : (c d : ℕ) → Leads new.nexts.items d (head_of new c) → ((c ≡ code_of (watched old e)) × (d ≡ e)) ⊎ Leads old.nexts.items d (head_of old c)
  stood c d there = elim (cases_eq c (code_of (watched old e))) [
    | inl is ↦ elim (first_or_later new.nexts.items d e (subst (Leads new.nexts.items d) (ap (head_of new) is ∙ head_same) there)) [
      | inl same ↦ inl (is, same)
      | inr rest ↦ inr (back d (head_of old c) (off_chain c) (subst (Leads new.nexts.items d) (next_same ∙ ap (head_of old) (sym is)) rest))
    ]
    | inr ne ↦ inr (back d (head_of old c) (off_chain c) (subst (Leads new.nexts.items d) (head_other c ne) there))
  ]

  stays : (c d : ℕ) → Leads old.nexts.items d (head_of old c) → Leads new.nexts.items d (head_of new c)
  stays c d there = elim (cases_eq c (code_of (watched old e))) [
    | inl is ↦ subst (Leads new.nexts.items d) (sym (ap (head_of new) is ∙ head_same)) (later (e + 1) e refl
        (subst (Leads new.nexts.items d) (sym (next_same ∙ ap (head_of old) (sym is))) (keep d (head_of old c) (off_chain c) there)))
    | inr ne ↦ subst (Leads new.nexts.items d) (sym (head_other c ne)) (keep d (head_of old c) (off_chain c) there)
  ]

  pub link_keeps : (d : ℕ) → Leads old.nexts.items d (slice_index_or old.nexts.items e 0) → Leads new.nexts.items d (slice_index_or old.nexts.items e 0)
  link_keeps d there = keep d (slice_index_or old.nexts.items e 0) first.apart there

  pub link_chained : IsChained new (slice_index_or old.nexts.items e 0) left
  link_chained = record {
    ends = λ c. elim (cases_eq c (code_of (watched old e))) [
      | inl is ↦ more (head_of new c) (count_of new c) e (count_of old c) (ap (head_of new) is ∙ head_same)
          (ap (count_of new) is ∙ count_same ∙ ap (λ i. count_of old i + 1) (sym is)) (omega (arith, first.below, link.used))
          (subst (λ n. Ends new.nexts.items new.used n (count_of old c)) (sym (next_same ∙ ap (head_of old) (sym is))) (keep_ends (head_of old c) (count_of old c) (off_chain c) (h.ends c)))
      | inr ne ↦ subst (λ n. Ends new.nexts.items new.used n (count_of new c)) (sym (head_other c ne))
          (subst (Ends new.nexts.items new.used (head_of old c)) (sym (count_other c ne)) (keep_ends (head_of old c) (count_of old c) (off_chain c) (h.ends c)))
    ];
    rest = keep_ends (slice_index_or old.nexts.items e 0) left first.apart (first.rest left refl);
    home = λ c d there. elim (stood c d there) [
      | inl a ↦ (ap code_of (same_watch d ∙ ap (watched old) a.1) ∙ sym a.0, λ z. h.loose e (this (e + 1) refl) (sym (same_watch d ∙ ap (watched old) a.1) ∙ z))
      | inr b ↦ (ap code_of (same_watch d) ∙ (h.home c d b).0, λ z. (h.home c d b).1 (sym (same_watch d) ∙ z))
    ];
    loose = λ d there z. h.loose d (later (e + 1) e refl (back d (slice_index_or old.nexts.items e 0) first.apart there)) (sym (same_watch d) ∙ z);
    apart = λ c d there rest.
        let behind : Leads old.nexts.items d (slice_index_or old.nexts.items e 0) = back d (slice_index_or old.nexts.items e 0) first.apart rest in
        elim (stood c d there) [
          | inl a ↦ first.apart (subst (λ n. Leads old.nexts.items n (slice_index_or old.nexts.items e 0)) a.1 behind)
          | inr b ↦ h.apart c d b (later (e + 1) e refl behind)
        ];
    all = λ d lt set_d.
        let set_old : watched old d ≢ pos 0 = λ z. set_d (same_watch d ∙ z) in
        elim (h.all d (omega (arith, link.used)) set_old) [
          | inl a ↦ inl (subst (λ l. Leads new.nexts.items d (head_of new (code_of l))) (sym (same_watch d)) (stays (code_of (watched old d)) d a))
          | inr b ↦ elim (first_or_later old.nexts.items d e b) [
            | inl is ↦ inl (subst (λ l. Leads new.nexts.items d (head_of new (code_of l))) (sym (same_watch d ∙ ap (watched old) is))
                (subst (Leads new.nexts.items d) (sym head_same) (this (e + 1) (omega (arith, is)))))
            | inr rest ↦ inr (link_keeps d rest)
          ]
        ];
    total =
        let step : linked new + count_of old (code_of (watched old e)) ≡ linked old + (count_of old (code_of (watched old e)) + 1) =
        ap (λ cs. sum_by (λ n. n) cs + count_of old (code_of (watched old e))) link.counts
        ∙ sum_by-set (λ n. n) old.counts.items (code_of (watched old e)) (count_of old (code_of (watched old e)) + 1) 0 (omega (arith, room, counted)) in
        omega (arith, step, h.total, link.used);
    room = λ d lt set_d.
        let r : HasRoom (length old.heads.items) (watched old d) = h.room d (omega (arith, link.used)) (λ z. set_d (same_watch d ∙ z)) in
        let size : length new.heads.items ≡ length old.heads.items = ap length link.heads ∙ length-set old.heads.items (code_of (watched old e)) (e + 1) in
        subst (HasRoom (length new.heads.items)) (sym (same_watch d)) (subst (λ n. HasRoom n (watched old d)) (sym size) r);
  }

pub link_heads : (old new : Watch) (e : ℕ) → IsLink old new e → length new.heads.items ≡ length old.heads.items
link_heads old new e link = ap length link.heads ∙ length-set old.heads.items (code_of (watched old e)) (e + 1)

head_entry : (nexts : List ℕ) (bound at left : ℕ) → Ends nexts bound at left → 0 < left → (e : ℕ) × (at ≡ e + 1) × (e < bound)
head_entry nexts bound at left (none h k a b) lt = absurd (omega arith)
head_entry nexts bound at left (more h c i k is at' below rest) lt = (i, is, below)

pub loose_entry : (x : Watch) (at left : ℕ) → IsChained x at left → 0 < left → IsLoose x at
loose_entry x at left h lt =
    let (e, is, below) = head_entry x.nexts.items x.used at left h.rest lt in
    let same : at - 1 ≡ e = omega arith in
    let room : HasRoom (length x.heads.items) (watched x e) = h.room e below (h.loose e (this at is)) in
    record {
      some = omega arith;
      below = omega arith;
      room = subst (λ n. HasRoom (length x.heads.items) (watched x n)) (sym same) room;
      count = subst (λ n. count_of x (code_of (watched x n)) < length x.nexts.items) (sym same)
          (omega (arith, get_or-le-sum_by (λ n. n) x.counts.items (code_of (watched x e)) 0 (omega (arith, room.own, x.counted)), h.total, x.in_use));
    }

pub link_loose : (old new : Watch) (at left next : ℕ) → IsChained old at left → 0 < left → IsLink old new (at - 1)
    → next ≡ slice_index_or old.nexts.items (at - 1) 0 → IsChained new next (left - 1)
link_loose old new at left next h lt link is =
    let loose : IsLoose old at = loose_entry old at left h lt in
    let at_is : at ≡ at - 1 + 1 = omega (arith, loose.some) in
    let left_is : left ≡ left - 1 + 1 = omega arith in
    subst (λ n. IsChained new n (left - 1)) (sym is) (link_chained old new (at - 1) (left - 1)
    (subst (λ n. IsChained old n (left - 1 + 1)) at_is (subst (IsChained old at) left_is h)) link loose.room.own old.counted
    (omega (arith, loose.below, old.in_use)))

pub ends_at : (nexts : List ℕ) (bound at left : ℕ) → Ends nexts bound at left → left ≡ 0 → at ≡ 0
ends_at nexts bound at left (none h k a b) z = a
ends_at nexts bound at left (more h c i k is at' below rest) z = absurd (omega arith)

-- an empty loose chain
pub chained_end : (x : Watch) (at left : ℕ) → left ≡ 0 → IsChained x at left → IsChained x 0 0
chained_end x at left z h = subst (λ n. IsChained x n 0) (ends_at x.nexts.items x.used at left h.rest z) (subst (IsChained x at) z h)
