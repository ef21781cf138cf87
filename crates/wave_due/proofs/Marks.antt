-- One position more is due.
use Rattle.std.proofs.Common.{◌≡◌, ℕ, zero, suc, ◌+◌, ◌==◌, ◌||◌, Bool, true, false, Contains, List, [], ◌∷◌}
use Rattle.std.proofs.Common.{length, refl, sym, ◌∙◌, arith, subst, inl, inr, ⊎_elim}
use Rattle.std.specs.List.{list_any}
use Rattle.std.proofs.lemmas.Bool.{cases_eq, eq-eqb}
use Rattle.replay_fans.specs.Marks.{OnlyMore}
use Rattle.replay_fans.proofs.Marking.{clear_before}
use Rattle.replay_due.specs.Due.{AreAllDue, GainsAll, KeepsOthers, is_due}
use Rattle.wave_due.specs.Walk.{AreReadersIn}

pub inserted_more : (old new : List ℕ) (position : ℕ) → is_due new position ≡ true → KeepsOthers old new position
    → OnlyMore old new
inserted_more old new position here others = λ p is. ⊎_elim
    (λ (same : p ≡ position). subst (λ q. is_due new q ≡ true) (sym same) here)
    (λ (other : p ≡ position → ⊥). others p other ∙ is) (cases_eq p position)

pub all_more : (old new : List ℕ) (n : ℕ) → is_due new n ≡ true → OnlyMore old new → AreAllDue old n
    → AreAllDue new (n + 1)
all_more old new n here more all = λ p less. ⊎_elim
    (λ (same : p ≡ n). subst (λ q. is_due new q ≡ true) (sym same) here)
    (λ (other : p ≡ n → ⊥). more p (all p (omega (arith, less, other)))) (cases_eq p n)

-- The readers of a net are in a set that has gained them, and where the net keeps they needn't be.
no_more : (a b : Bool) → a || b ≡ false → (a ≡ false) × (b ≡ false)
no_more false b none = (refl, none)
no_more true b none = cc

or_right : (a b : Bool) → b ≡ true → a || b ≡ true
or_right false b is = is
or_right true b is = refl

gained : (xs : List ℕ) (p : ℕ) → Contains xs p → list_any (λ q. q == p) xs ≡ true
gained [] p (k, less, is) = absurd (omega (arith, less))
gained (x ∷ xs) p (zero, less, is) = rw (eq-eqb x p is) refl
gained (x ∷ xs) p (suc k, less, is) =
    or_right (x == p) (list_any (λ q. q == p) xs) (gained xs p (k, omega (arith, less), is))

clash : (b : Bool) → b ≡ true → b ≡ false → ⊥
clash true is isnt = cc
clash false is isnt = cc

pub gained_readers : (readers old new : List ℕ) → length new ≡ length old → GainsAll old new readers
    → AreReadersIn false readers old new
gained_readers readers old new long gains = record {
  long = long;
  more = λ p none. (no_more (is_due old p) (list_any (λ q. q == p) readers) (sym (gains p) ∙ none)).0;
  unread = λ p none. inr (λ reads. clash (list_any (λ q. q == p) readers) (gained readers p reads)
      (no_more (is_due old p) (list_any (λ q. q == p) readers) (sym (gains p) ∙ none)).1);
}

pub kept_readers : (readers due : List ℕ) → AreReadersIn true readers due due
kept_readers readers due = record {
  long = refl;
  more = λ p none. none;
  unread = λ p none. inl refl;
}

-- A set that has more has the readers too.
pub readers_more : (keeps : Bool) (readers old mid new : List ℕ) → length new ≡ length mid → OnlyMore mid new
    → AreReadersIn keeps readers old mid → AreReadersIn keeps readers old new
readers_more keeps readers old mid new long more are = record {
  long = long ∙ are.long;
  more = λ p none. are.more p (clear_before mid new p more none);
  unread = λ p none. are.unread p (clear_before mid new p more none);
}
