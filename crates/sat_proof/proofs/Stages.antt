-- Chains of watches: one is taken off, an entry watches another literal, an entry is added.
use Rattle.std.proofs.Common.{◌≡◌, ◌≢◌, ℕ, ◌<◌, ◌≤◌, ◌+◌, length, ap, sym, refl, ◌∙◌, ◌⊎◌, inl, inr, set, slice_index_or, arith, subst}
use Rattle.std.proofs.lemmas.Bool.{cases_eq}
use Rattle.std.proofs.lemmas.List.{get_or-set_other, get_or-set_same, length-set}
use Rattle.std.proofs.lemmas.List.Sums.{sum_by-set, sum_by-le}
use Rattle.std.proofs.lemmas.List.Elements.{All-from_get_or}
use Rattle.std.specs.Prelude.{ℤ, pos}
use Rattle.std.specs.List.{sum_by}
use Rattle.sat_proof.specs.Code.{code_of, HasRoom}
use Rattle.sat_proof.specs.Watch.{Leads, this, later, Ends, none, more, head_of, count_of, watched, linked, IsChained, IsDetached, IsMoved, IsStaged, IsAdded}
use Rattle.sat_proof.specs.declared.watch.Watch.{Watch}
use Rattle.sat_proof.proofs.Links.{leads_kept, leads_back, leads_below, leads_none, ends_kept, ends_wider, first_or_later}

-- A code's chain is taken off.
module _ (old new : Watch) (code : ℕ) (h : IsChained old 0 0) (d : IsDetached old new code)
    (room : code < length old.heads.items) (counted : code < length old.counts.items) where
  off_same : head_of new code ≡ 0
  off_same = ap (λ hs. slice_index_or hs code 0) d.heads ∙ get_or-set_same old.heads.items code 0 0 room

  off_other : (c : ℕ) → c ≢ code → head_of new c ≡ head_of old c
  off_other c ne = ap (λ hs. slice_index_or hs c 0) d.heads ∙ get_or-set_other old.heads.items code c 0 0 ne

  off_watch : (e : ℕ) → watched new e ≡ watched old e
  off_watch e = ap (λ ls. slice_index_or ls e (pos 0)) d.literals

  off_leads : (e head : ℕ) → Leads new.nexts.items e head → Leads old.nexts.items e head
  off_leads e head there = subst (λ ns. Leads ns e head) d.nexts there

  off_ends : (head count : ℕ) → Ends old.nexts.items old.used head count → Ends new.nexts.items new.used head count
  off_ends head count ends = subst (λ ns. Ends ns new.used head count) (sym d.nexts) (subst (λ b. Ends old.nexts.items b head count) (sym d.used) ends)

  -- no entry stands in the code's own chain now
  off_stood : (c e : ℕ) → Leads new.nexts.items e (head_of new c) → (c ≢ code) × Leads old.nexts.items e (head_of old c)
  off_stood c e there = elim (cases_eq c code) [
    | inl is ↦ absurd (leads_none new.nexts.items e (head_of new c) (ap (head_of new) is ∙ off_same) there)
    | inr ne ↦ (ne, off_leads e (head_of old c) (subst (Leads new.nexts.items e) (off_other c ne) there))
  ]

  pub detach_chained : IsChained new (head_of old code) (count_of old code)
  detach_chained = record {
    ends = λ c. elim (cases_eq c code) [
      | inl is ↦ none (head_of new c) (count_of new c) (ap (head_of new) is ∙ off_same)
          (ap (count_of new) is ∙ ap (λ cs. slice_index_or cs code 0) d.counts ∙ get_or-set_same old.counts.items code 0 0 counted)
      | inr ne ↦ subst (λ n. Ends new.nexts.items new.used n (count_of new c)) (sym (off_other c ne))
          (subst (Ends new.nexts.items new.used (head_of old c)) (sym (ap (λ cs. slice_index_or cs c 0) d.counts ∙ get_or-set_other old.counts.items code c 0 0 ne))
          (off_ends (head_of old c) (count_of old c) (h.ends c)))
    ];
    rest = off_ends (head_of old code) (count_of old code) (h.ends code);
    home = λ c e there.
        let was : (code_of (watched old e) ≡ c) × (watched old e ≢ pos 0) = h.home c e (off_stood c e there).1 in
        (ap code_of (off_watch e) ∙ was.0, λ z. was.1 (sym (off_watch e) ∙ z));
    loose = λ e there z. (h.home code e (off_leads e (head_of old code) there)).1 (sym (off_watch e) ∙ z);
    apart = λ c e there rest.
        let stood : (c ≢ code) × Leads old.nexts.items e (head_of old c) = off_stood c e there in
        stood.0 (sym (h.home c e stood.1).0 ∙ (h.home code e (off_leads e (head_of old code) rest)).0);
    all = λ e lt set_e. elim (h.all e (omega (arith, d.used)) (λ z. set_e (off_watch e ∙ z))) [
      | inl a ↦ elim (cases_eq (code_of (watched old e)) code) [
        | inl is ↦ inr (subst (λ ns. Leads ns e (head_of old code)) (sym d.nexts) (subst (λ c. Leads old.nexts.items e (head_of old c)) is a))
        | inr ne ↦ inl (subst (λ l. Leads new.nexts.items e (head_of new (code_of l))) (sym (off_watch e))
            (subst (Leads new.nexts.items e) (sym (off_other (code_of (watched old e)) ne)) (subst (λ ns. Leads ns e (head_of old (code_of (watched old e)))) (sym d.nexts) a)))
      ]
      | inr b ↦ absurd (leads_none old.nexts.items e 0 refl b)
    ];
    total =
        let step : linked new + count_of old code ≡ linked old + 0 = ap (λ cs. sum_by (λ n. n) cs + count_of old code) d.counts ∙ sum_by-set (λ n. n) old.counts.items code 0 0 counted in
        omega (arith, step, h.total, d.used);
    room = λ e lt set_e.
        let size : length new.heads.items ≡ length old.heads.items = ap length d.heads ∙ length-set old.heads.items code 0 in
        subst (HasRoom (length new.heads.items)) (sym (off_watch e)) (subst (λ n. HasRoom n (watched old e)) (sym size)
        (h.room e (omega (arith, d.used)) (λ z. set_e (off_watch e ∙ z))));
  }

-- The first loose entry watches another literal.
module _ (old new : Watch) (e left : ℕ) (l : ℤ) (h : IsChained old (e + 1) left) (t : IsMoved old new e l) (room : HasRoom (length old.heads.items) l)
    (below : e < length old.literals.items) where
  turned_same : watched new e ≡ l
  turned_same = ap (λ ls. slice_index_or ls e (pos 0)) t.literals ∙ get_or-set_same old.literals.items e l (pos 0) below

  turned_other : (d : ℕ) → d ≢ e → watched new d ≡ watched old d
  turned_other d ne = ap (λ ls. slice_index_or ls d (pos 0)) t.literals ∙ get_or-set_other old.literals.items e d l (pos 0) ne

  turned_head : (c : ℕ) → head_of new c ≡ head_of old c
  turned_head c = ap (λ hs. slice_index_or hs c 0) t.heads

  turned_back : (d head : ℕ) → Leads new.nexts.items d head → Leads old.nexts.items d head
  turned_back d head there = subst (λ ns. Leads ns d head) t.nexts there

  turned_stood : (c d : ℕ) → Leads new.nexts.items d (head_of new c) → (d ≢ e) × Leads old.nexts.items d (head_of old c)
  turned_stood c d there =
      let was : Leads old.nexts.items d (head_of old c) = turned_back d (head_of old c) (subst (Leads new.nexts.items d) (turned_head c) there) in
      (λ is. h.apart c e (subst (λ n. Leads old.nexts.items n (head_of old c)) is was) (this (e + 1) refl), was)

  turned_ends : (head count : ℕ) → Ends old.nexts.items old.used head count → Ends new.nexts.items new.used head count
  turned_ends head count ends = subst (λ ns. Ends ns new.used head count) (sym t.nexts) (subst (λ b. Ends old.nexts.items b head count) (sym t.used) ends)

  pub turn_chained : IsChained new (e + 1) left
  turn_chained = record {
    ends = λ c. subst (λ n. Ends new.nexts.items new.used n (count_of new c)) (sym (turned_head c))
        (subst (Ends new.nexts.items new.used (head_of old c)) (sym (ap (λ cs. slice_index_or cs c 0) t.counts)) (turned_ends (head_of old c) (count_of old c) (h.ends c)));
    rest = turned_ends (e + 1) left h.rest;
    home = λ c d there.
        let stood : (d ≢ e) × Leads old.nexts.items d (head_of old c) = turned_stood c d there in
        (ap code_of (turned_other d stood.0) ∙ (h.home c d stood.1).0, λ z. (h.home c d stood.1).1 (sym (turned_other d stood.0) ∙ z));
    loose = λ d there z. elim (cases_eq d e) [
      | inl is ↦ room.nonzero (sym (ap (watched new) is ∙ turned_same) ∙ z)
      | inr ne ↦ h.loose d (turned_back d (e + 1) there) (sym (turned_other d ne) ∙ z)
    ];
    apart = λ c d there rest. h.apart c d (turned_stood c d there).1 (turned_back d (e + 1) rest);
    all = λ d lt set_d. elim (cases_eq d e) [
      | inl is ↦ inr (this (e + 1) (omega (arith, is)))
      | inr ne ↦ elim (h.all d (omega (arith, t.used)) (λ z. set_d (turned_other d ne ∙ z))) [
        | inl a ↦ inl (subst (λ x. Leads new.nexts.items d (head_of new (code_of x))) (sym (turned_other d ne))
            (subst (Leads new.nexts.items d) (sym (turned_head (code_of (watched old d)))) (subst (λ ns. Leads ns d (head_of old (code_of (watched old d)))) (sym t.nexts) a)))
        | inr b ↦ inr (subst (λ ns. Leads ns d (e + 1)) (sym t.nexts) b)
      ]
    ];
    total = omega (arith, ap (λ cs. sum_by (λ n. n) cs) t.counts, h.total, t.used);
    room = λ d lt set_d.
        let size : length new.heads.items ≡ length old.heads.items = ap length t.heads in
        elim (cases_eq d e) [
          | inl is ↦ subst (HasRoom (length new.heads.items)) (sym (ap (watched new) is ∙ turned_same)) (subst (λ n. HasRoom n l) (sym size) room)
          | inr ne ↦ subst (HasRoom (length new.heads.items)) (sym (turned_other d ne)) (subst (λ n. HasRoom n (watched old d)) (sym size)
              (h.room d (omega (arith, t.used)) (λ z. set_d (turned_other d ne ∙ z))))
        ];
  }

-- One more entry, before the loose chain or in none.
module _ (old new : Watch) (at head left : ℕ) (l : ℤ) (h : IsChained old at left) (s : IsStaged old new head l)
    (literals_left : old.used < length old.literals.items) (nexts_left : old.used < length old.nexts.items) where
  staged_same : watched new old.used ≡ l
  staged_same = ap (λ ls. slice_index_or ls old.used (pos 0)) s.literals ∙ get_or-set_same old.literals.items old.used l (pos 0) literals_left

  staged_other : (d : ℕ) → d ≢ old.used → watched new d ≡ watched old d
  staged_other d ne = ap (λ ls. slice_index_or ls d (pos 0)) s.literals ∙ get_or-set_other old.literals.items old.used d l (pos 0) ne

  staged_head : (c : ℕ) → head_of new c ≡ head_of old c
  staged_head c = ap (λ hs. slice_index_or hs c 0) s.heads

  staged_next : slice_index_or new.nexts.items old.used 0 ≡ head
  staged_next = ap (λ ns. slice_index_or ns old.used 0) s.nexts ∙ get_or-set_same old.nexts.items old.used head 0 nexts_left

  off_old : (c : ℕ) → Leads old.nexts.items old.used (head_of old c) → ⊥
  off_old c there = let lt : old.used < old.used = leads_below old.nexts.items old.used old.used (head_of old c) (count_of old c) (h.ends c) there in omega arith

  off_loose : Leads old.nexts.items old.used at → ⊥
  off_loose there = let lt : old.used < old.used = leads_below old.nexts.items old.used old.used at left h.rest there in omega arith

  staged_keep : (d n : ℕ) → (Leads old.nexts.items old.used n → ⊥) → Leads old.nexts.items d n → Leads new.nexts.items d n
  staged_keep d n off there = subst (λ ns. Leads ns d n) (sym s.nexts) (leads_kept old.nexts.items old.used head d n there off)

  staged_back : (d n : ℕ) → (Leads old.nexts.items old.used n → ⊥) → Leads new.nexts.items d n → Leads old.nexts.items d n
  staged_back d n off there = leads_back old.nexts.items old.used head d n (subst (λ ns. Leads ns d n) s.nexts there) off

  staged_ends : (n count : ℕ) → (Leads old.nexts.items old.used n → ⊥) → Ends old.nexts.items old.used n count → Ends new.nexts.items new.used n count
  staged_ends n count off ends = ends_wider new.nexts.items old.used new.used n count (omega (arith, s.used))
      (subst (λ ns. Ends ns old.used n count) (sym s.nexts) (ends_kept old.nexts.items old.used head old.used n count ends off))

  staged_stood : (c d : ℕ) → Leads new.nexts.items d (head_of new c) → (d ≢ old.used) × Leads old.nexts.items d (head_of old c)
  staged_stood c d there =
      let was : Leads old.nexts.items d (head_of old c) = staged_back d (head_of old c) (off_old c) (subst (Leads new.nexts.items d) (staged_head c) there) in
      (λ is. off_old c (subst (λ n. Leads old.nexts.items n (head_of old c)) is was), was)

  staged_all : (d : ℕ) → d < old.used → watched new d ≢ pos 0 → Leads new.nexts.items d (head_of new (code_of (watched new d))) ⊎ Leads new.nexts.items d at
  staged_all d lt set_d =
      let ne : d ≢ old.used = λ is. omega (arith, is) in
      elim (h.all d lt (λ z. set_d (staged_other d ne ∙ z))) [
        | inl a ↦ inl (subst (λ x. Leads new.nexts.items d (head_of new (code_of x))) (sym (staged_other d ne))
            (subst (Leads new.nexts.items d) (sym (staged_head (code_of (watched old d)))) (staged_keep d (head_of old (code_of (watched old d))) (off_old (code_of (watched old d))) a)))
        | inr b ↦ inr (staged_keep d at off_loose b)
      ]

  staged_room : (d : ℕ) → d < old.used → watched new d ≢ pos 0 → HasRoom (length new.heads.items) (watched new d)
  staged_room d lt set_d =
      let ne : d ≢ old.used = λ is. omega (arith, is) in
      subst (HasRoom (length new.heads.items)) (sym (staged_other d ne)) (subst (λ n. HasRoom n (watched old d)) (sym (ap length s.heads))
      (h.room d lt (λ z. set_d (staged_other d ne ∙ z))))

  pub blank_chained : l ≡ pos 0 → IsChained new at left
  blank_chained none_here = record {
    ends = λ c. subst (λ n. Ends new.nexts.items new.used n (count_of new c)) (sym (staged_head c))
        (subst (Ends new.nexts.items new.used (head_of old c)) (sym (ap (λ cs. slice_index_or cs c 0) s.counts)) (staged_ends (head_of old c) (count_of old c) (off_old c) (h.ends c)));
    rest = staged_ends at left off_loose h.rest;
    home = λ c d there.
        let stood : (d ≢ old.used) × Leads old.nexts.items d (head_of old c) = staged_stood c d there in
        (ap code_of (staged_other d stood.0) ∙ (h.home c d stood.1).0, λ z. (h.home c d stood.1).1 (sym (staged_other d stood.0) ∙ z));
    loose = λ d there z.
        let was : Leads old.nexts.items d at = staged_back d at off_loose there in
        let ne : d ≢ old.used = λ is. off_loose (subst (λ n. Leads old.nexts.items n at) is was) in
        h.loose d was (sym (staged_other d ne) ∙ z);
    apart = λ c d there rest. h.apart c d (staged_stood c d there).1 (staged_back d at off_loose rest);
    all = λ d lt set_d. elim (cases_eq d old.used) [
      | inl is ↦ absurd (set_d (ap (watched new) is ∙ staged_same ∙ none_here))
      | inr ne ↦ staged_all d (omega (arith, s.used)) set_d
    ];
    total = omega (arith, ap (λ cs. sum_by (λ n. n) cs) s.counts, h.total, s.used);
    room = λ d lt set_d. elim (cases_eq d old.used) [
      | inl is ↦ absurd (set_d (ap (watched new) is ∙ staged_same ∙ none_here))
      | inr ne ↦ staged_room d (omega (arith, s.used)) set_d
    ];
  }

  pub stage_chained : HasRoom (length old.heads.items) l → head ≡ at → IsChained new (old.used + 1) (left + 1)
  stage_chained room here = record {
    ends = λ c. subst (λ n. Ends new.nexts.items new.used n (count_of new c)) (sym (staged_head c))
        (subst (Ends new.nexts.items new.used (head_of old c)) (sym (ap (λ cs. slice_index_or cs c 0) s.counts)) (staged_ends (head_of old c) (count_of old c) (off_old c) (h.ends c)));
    rest = more (old.used + 1) (left + 1) old.used left refl refl (omega (arith, s.used))
        (subst (λ n. Ends new.nexts.items new.used n left) (sym (staged_next ∙ here)) (staged_ends at left off_loose h.rest));
    home = λ c d there.
        let stood : (d ≢ old.used) × Leads old.nexts.items d (head_of old c) = staged_stood c d there in
        (ap code_of (staged_other d stood.0) ∙ (h.home c d stood.1).0, λ z. (h.home c d stood.1).1 (sym (staged_other d stood.0) ∙ z));
    loose = λ d there z. elim (first_or_later new.nexts.items d old.used there) [
      | inl is ↦ room.nonzero (sym (ap (watched new) is ∙ staged_same) ∙ z)
      | inr rest ↦
          let was : Leads old.nexts.items d at = staged_back d at off_loose (subst (Leads new.nexts.items d) (staged_next ∙ here) rest) in
          let ne : d ≢ old.used = λ is. off_loose (subst (λ n. Leads old.nexts.items n at) is was) in
          h.loose d was (sym (staged_other d ne) ∙ z)
    ];
    apart = λ c d there rest. elim (first_or_later new.nexts.items d old.used rest) [
      | inl is ↦ (staged_stood c d there).0 is
      | inr rest' ↦ h.apart c d (staged_stood c d there).1 (staged_back d at off_loose (subst (Leads new.nexts.items d) (staged_next ∙ here) rest'))
    ];
    all = λ d lt set_d. elim (cases_eq d old.used) [
      | inl is ↦ inr (this (old.used + 1) (omega (arith, is)))
      | inr ne ↦ elim (staged_all d (omega (arith, s.used)) set_d) [
        | inl a ↦ inl a
        | inr b ↦ inr (later (old.used + 1) old.used refl (subst (Leads new.nexts.items d) (sym (staged_next ∙ here)) b))
      ]
    ];
    total = omega (arith, ap (λ cs. sum_by (λ n. n) cs) s.counts, h.total, s.used);
    room = λ d lt set_d. elim (cases_eq d old.used) [
      | inl is ↦ subst (HasRoom (length new.heads.items)) (sym (ap (watched new) is ∙ staged_same)) (subst (λ n. HasRoom n l) (sym (ap length s.heads)) room)
      | inr ne ↦ staged_room d (omega (arith, s.used)) set_d
    ];
  }

pub staged_length : (old new : Watch) (head : ℕ) (l : ℤ) → IsStaged old new head l → length new.nexts.items ≡ length old.nexts.items
staged_length old new head l t = ap length t.nexts ∙ length-set old.nexts.items old.used head

-- two entries are added one by one
pub added_two : (old mid new : Watch) (g h : ℕ) (a b : ℤ) → IsStaged old mid g a → IsStaged mid new h b → old.used + 2 ≤ length old.literals.items → IsAdded old new a b
added_two old mid new g h a b s t left = record {
  literals = t.literals ∙ ap (λ n. set mid.literals.items n b) s.used ∙ ap (λ ls. set ls (old.used + 1) b) s.literals;
  used = omega (arith, s.used, t.used);
  left = left;
}

pub added_more : (old mid new : Watch) (a b : ℤ) → IsAdded old mid a b → new.literals.items ≡ mid.literals.items → new.used ≡ mid.used → IsAdded old new a b
added_more old mid new a b h literals used = record { literals = literals ∙ h.literals; used = used ∙ h.used; left = h.left }

-- no clause yet
pub chained_none : (x : Watch) → ((k : ℕ) → head_of x k ≡ 0) → ((k : ℕ) → count_of x k ≡ 0) → x.used ≡ 0 → IsChained x 0 0
chained_none x heads counts used = record {
  ends = λ c. none (head_of x c) (count_of x c) (heads c) (counts c);
  rest = none 0 0 refl refl;
  home = λ c e there. absurd (leads_none x.nexts.items e (head_of x c) (heads c) there);
  loose = λ e there. absurd (leads_none x.nexts.items e 0 refl there);
  apart = λ c e there rest. leads_none x.nexts.items e 0 refl rest;
  all = λ e lt set_e. absurd (omega (arith, used));
  total = omega (arith, used, sum_by-le (λ n. n) 0 x.counts.items (All-from_get_or (λ n. n ≤ 0) x.counts.items 0 (λ i lt. omega (arith, counts i))));
  room = λ e lt set_e. absurd (omega (arith, used));
}
