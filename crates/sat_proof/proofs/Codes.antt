-- Literals, their codes, and one more mark.
use Rattle.std.proofs.Common.{◌≡◌, ◌≢◌, ℕ, ◌<◌, Bool, true, false, List, length, ap, sym, refl, ◌∙◌, ◌⊎◌, inl, inr, set, slice_index_or, suc, zero, arith, subst}
use Rattle.std.proofs.lemmas.Bool.{cases_eq, false≢true}
use Rattle.std.proofs.lemmas.List.{get_or-set_other, get_or-set_same}
use Rattle.std.specs.Prelude.{ℤ, pos, negsuc, neg_ℤ}
use Rattle.sat_proof.specs.Code.{code_of, is_false, IsConsistent, HasRoom, AreClear}

pub code_apart : (a b : ℤ) → code_of a ≡ code_of b → a ≡ b
code_apart (pos a) (pos b) e = let h : a ≡ b = omega arith in ap pos h
code_apart (pos a) (negsuc b) e = absurd (omega arith)
code_apart (negsuc a) (pos b) e = absurd (omega arith)
code_apart (negsuc a) (negsuc b) e = let h : a ≡ b = omega arith in ap negsuc h

pub literal_cases : (a b : ℤ) → (a ≡ b) ⊎ (a ≢ b)
literal_cases a b = elim (cases_eq (code_of a) (code_of b)) [
  | inl e ↦ inl (code_apart a b e)
  | inr ne ↦ inr (λ e. ne (ap code_of e))
]

pub neg-neg : (l : ℤ) → neg_ℤ (neg_ℤ l) ≡ l
neg-neg (pos zero) = refl
neg-neg (pos (suc n)) = refl
neg-neg (negsuc n) = refl

pub neg_own : (l : ℤ) → neg_ℤ l ≡ l → l ≡ pos 0
neg_own (pos zero) e = refl
neg_own (pos (suc n)) e = cc
neg_own (negsuc n) e = cc

pub room_other : (n : ℕ) (l : ℤ) → HasRoom n l → HasRoom n (neg_ℤ l)
room_other n l r = record {
  nonzero = λ e. r.nonzero (sym (neg-neg l) ∙ ap neg_ℤ e);
  own = r.other;
  other = subst (λ m. code_of m < n) (sym (neg-neg l)) r.own;
}

pub marked_same : (marks : List Bool) (l : ℤ) → code_of l < length marks → is_false (set marks (code_of l) true) l ≡ true
marked_same marks l h = get_or-set_same marks (code_of l) true false h

pub mark_kept : (marks : List Bool) (i k : ℕ) → i < length marks → slice_index_or marks k false ≡ true → slice_index_or (set marks i true) k false ≡ true
mark_kept marks i k h on = grind (arith, get_or-set_other, get_or-set_same)

pub mark_cases : (marks : List Bool) (i k : ℕ) → i < length marks → slice_index_or (set marks i true) k false ≡ true
    → (slice_index_or marks k false ≡ true) ⊎ (k ≡ i)
mark_cases marks i k h on = elim (cases_eq k i) [
  | inl e ↦ inr e
  | inr ne ↦ inl (sym (get_or-set_other marks i k true false ne) ∙ on)
]

pub marked_more : (marks : List Bool) (l m : ℤ) → code_of l < length marks → is_false marks m ≡ true → is_false (set marks (code_of l) true) m ≡ true
marked_more marks l m h on = mark_kept marks (code_of l) (code_of m) h on

pub marked_cases : (marks : List Bool) (l m : ℤ) → code_of l < length marks → is_false (set marks (code_of l) true) m ≡ true
    → (is_false marks m ≡ true) ⊎ (m ≡ l)
marked_cases marks l m h on = elim (mark_cases marks (code_of l) (code_of m) h on) [ inl a ↦ inl a | inr e ↦ inr (code_apart m l e) ]

pub consistent_step : (marks : List Bool) (l : ℤ) → IsConsistent marks → HasRoom (length marks) l → is_false marks (neg_ℤ l) ≡ false
    → IsConsistent (set marks (code_of l) true)
consistent_step marks l apart room off m on other =
    elim (marked_cases marks l m room.own on) [
      | inl a ↦ elim (marked_cases marks l (neg_ℤ m) room.own other) [
        | inl b ↦ apart m a b
        | inr e ↦ false≢true (sym off ∙ ap (λ x. is_false marks (neg_ℤ x)) (sym e) ∙ ap (is_false marks) (neg-neg m) ∙ a)
      ]
      | inr e ↦ elim (marked_cases marks l (neg_ℤ m) room.own other) [
        | inl b ↦ false≢true (sym off ∙ ap (λ x. is_false marks (neg_ℤ x)) (sym e) ∙ b)
        | inr f ↦ room.nonzero (neg_own l (ap neg_ℤ (sym e) ∙ f))
      ]
    ]

pub consistent_clear : (marks : List Bool) → AreClear marks → IsConsistent marks
consistent_clear marks clear l on _ = false≢true (sym (clear (code_of l)) ∙ on)

-- where the value isn't false it is true, and the other way round
pub by_not_false : (b : Bool) → (b ≡ false → ⊥) → b ≡ true
by_not_false true h = refl
by_not_false false h = absurd (h refl)

pub by_not_true : (b : Bool) → (b ≡ true → ⊥) → b ≡ false
by_not_true true h = absurd (h refl)
by_not_true false h = refl
