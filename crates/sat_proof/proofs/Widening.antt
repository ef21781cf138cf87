-- Watches with room for one more entry go on serving: each read of a chain gives what it gave.
use Rattle.std.proofs.Common.{◌≡◌, ℕ, ◌+◌, ◌*◌, List, [], ◌∷◌, ◌++◌, length, ap, sym, refl, ◌∙◌, inl, inr, slice_index_or, arith, subst, zero, suc}
use Rattle.std.specs.Prelude.{ℤ, pos}
use Rattle.std.specs.List.{sum_by}
use Rattle.sat_proof.specs.Code.{code_of, HasRoom, is_false}
use Rattle.sat_proof.specs.Guard.{GoesOnServing, IsServing}
use Rattle.sat_proof.specs.Log.{clause_at}
use Rattle.sat_proof.specs.Watch.{Leads, this, later, Ends, none, more, head_of, count_of, watched, IsChained, IsPair, IsPaired, IsLaced, IsWider}
use Rattle.sat_proof.specs.declared.watch.Watch.{Watch}

read_wider : {X : Type 0} → (xs : List X) (d : X) (e : ℕ) → slice_index_or (xs ++ d ∷ []) e d ≡ slice_index_or xs e d
read_wider [] d zero = refl
read_wider [] d (suc e) = refl
read_wider (x ∷ xs) d zero = refl
read_wider (x ∷ xs) d (suc e) = read_wider xs d e

-- lists of entries that read alike have the same chains
leads_alike : (ns ms : List ℕ) → ((e : ℕ) → slice_index_or ms e 0 ≡ slice_index_or ns e 0) → (e head : ℕ) → Leads ns e head → Leads ms e head
leads_alike ns ms alike e head (this h is) = this h is
leads_alike ns ms alike e head (later h d is rest) = later h d is (subst (Leads ms e) (sym (alike d)) (leads_alike ns ms alike e (slice_index_or ns d 0) rest))

ends_alike : (ns ms : List ℕ) → ((e : ℕ) → slice_index_or ms e 0 ≡ slice_index_or ns e 0) → (bound head count : ℕ) → Ends ns bound head count → Ends ms bound head count
ends_alike ns ms alike bound head count (none h k a b) = none h k a b
ends_alike ns ms alike bound head count (more h c d k is at lt rest) =
    more h c d k is at lt (subst (λ n. Ends ms bound n k) (sym (alike d)) (ends_alike ns ms alike bound (slice_index_or ns d 0) k rest))

module _ (old new : Watch) (w : IsWider old new) where
  nexts : (e : ℕ) → slice_index_or new.nexts.items e 0 ≡ slice_index_or old.nexts.items e 0
  nexts e = ap (λ ns. slice_index_or ns e 0) w.nexts ∙ read_wider old.nexts.items 0 e

  watches : (e : ℕ) → watched new e ≡ watched old e
  watches e = ap (λ ls. slice_index_or ls e (pos 0)) w.literals ∙ read_wider old.literals.items (pos 0) e

  heads : (code : ℕ) → head_of new code ≡ head_of old code
  heads code = ap (λ hs. slice_index_or hs code 0) w.heads

  leads : (e head : ℕ) → Leads new.nexts.items e head → Leads old.nexts.items e head
  leads e head there = leads_alike new.nexts.items old.nexts.items (λ d. sym (nexts d)) e head there

  leads_on : (e head : ℕ) → Leads old.nexts.items e head → Leads new.nexts.items e head
  leads_on e head there = leads_alike old.nexts.items new.nexts.items nexts e head there

  ends_on : (head count : ℕ) → Ends old.nexts.items old.used head count → Ends new.nexts.items new.used head count
  ends_on head count ends = subst (λ n. Ends new.nexts.items n head count) (sym w.used) (ends_alike old.nexts.items new.nexts.items nexts old.used head count ends)

  chained_wider : (at left : ℕ) → IsChained old at left → IsChained new at left
  chained_wider at left x = record {
    ends = λ code. subst (λ k. Ends new.nexts.items new.used (head_of new code) k) (sym (ap (λ cs. slice_index_or cs code 0) w.counts))
        (subst (λ h. Ends new.nexts.items new.used h (count_of old code)) (sym (heads code)) (ends_on (head_of old code) (count_of old code) (x.ends code)));
    rest = ends_on at left x.rest;
    home = λ code e there. let was = x.home code e (leads e (head_of old code) (subst (Leads new.nexts.items e) (heads code) there)) in
        (ap code_of (watches e) ∙ was.0, λ z. was.1 (sym (watches e) ∙ z));
    loose = λ e there z. x.loose e (leads e at there) (sym (watches e) ∙ z);
    apart = λ code e there free. x.apart code e (leads e (head_of old code) (subst (Leads new.nexts.items e) (heads code) there)) (leads e at free);
    all = λ e lt some. elim (x.all e (omega (arith, w.used)) (λ z. some (watches e ∙ z))) [
      | inl a ↦ inl (subst (Leads new.nexts.items e) (sym (heads (code_of (watched new e))))
          (subst (λ l. Leads new.nexts.items e (head_of old (code_of l))) (sym (watches e)) (leads_on e (head_of old (code_of (watched old e))) a)))
      | inr b ↦ inr (leads_on e at b)
    ];
    total = let same : sum_by (λ n. n) new.counts.items ≡ sum_by (λ n. n) old.counts.items = ap (λ cs. sum_by (λ n. n) cs) w.counts in omega (arith, x.total, same, w.used);
    room = λ e lt some. subst (λ n. HasRoom n (watched new e)) (sym (ap length w.heads))
        (subst (HasRoom (length old.heads.items)) (sym (watches e)) (x.room e (omega (arith, w.used)) (λ z. some (watches e ∙ z))));
  }

  paired_wider : (clauses : List (List ℤ)) (n : ℕ) → IsPaired old clauses n → IsPaired new clauses n
  paired_wider clauses n (inl (a, b)) = inl (watches (2 * n) ∙ a, watches (2 * n + 1) ∙ b)
  paired_wider clauses n (inr pair) = inr (subst (IsPair (clause_at clauses n) (watched new (2 * n))) (sym (watches (2 * n + 1)))
      (subst (λ a. IsPair (clause_at clauses n) a (watched old (2 * n + 1))) (sym (watches (2 * n))) pair))

  laced_wider : (clauses : List (List ℤ)) → IsLaced old clauses 0 0 → IsLaced new clauses 0 0
  laced_wider clauses x = record {
    chained = chained_wider 0 0 x.chained;
    used = w.used ∙ x.used;
    pairs = λ n lt. paired_wider clauses n (x.pairs n lt);
  }

  pub serves_wider : GoesOnServing old new
  serves_wider marks clauses serve is_on =
      let was : IsServing old marks clauses = serve (sym w.on ∙ is_on) in
      record {
        laced = laced_wider clauses was.laced;
        safe = λ n lt. elim (was.safe n lt) [
          | inl a ↦ inl a
          | inr b ↦ inr (record {
            some = λ z. b.some (sym (watches (2 * n)) ∙ z);
            other = λ z. b.other (sym (watches (2 * n + 1)) ∙ z);
            first = λ on. b.first (ap (is_false marks) (sym (watches (2 * n))) ∙ on);
            second = λ on. b.second (ap (is_false marks) (sym (watches (2 * n + 1))) ∙ on);
          })
        ];
      }
