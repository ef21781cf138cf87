-- When a clause is quiet, and what a look at one has seen.
use Rattle.std.proofs.Common.{◌≡◌, ◌≢◌, ℕ, ◌<◌, ◌+◌, Bool, true, false, List, length, ap, sym, ◌∙◌, refl, below_more}
use Rattle.std.proofs.lemmas.Bool.{false≢true}
use Rattle.std.proofs.lemmas.List.Elements.{All-contains, All-contains_itself, Contains-get_or, All-from_get_or}
use Rattle.std.specs.Prelude.{ℤ, neg_ℤ, pos, Option, Some, None}
use Rattle.std.specs.List.{Contains, slice_index_or}
use Rattle.sat_proof.specs.Closed.{IsFalse, IsQuiet, AreOthersFalse}
use Rattle.sat_proof.specs.Code.{is_false, IsConsistent}
use Rattle.sat_proof.specs.Status.{literal_at, IsOpen, HasSeen}
use Rattle.sat_proof.proofs.Codes.{by_not_false}

pub others_at : (f : ℤ → Bool) (clause : List ℤ) (l m : ℤ) → AreOthersFalse f clause l → Contains clause m → m ≢ l → f m ≡ true
others_at f clause l m others here = All-contains (λ k. k ≢ l → f k ≡ true) clause m others here

-- a literal is true
pub quiet_by_true : (f : ℤ → Bool) (clause : List ℤ) (l : ℤ) → (f l ≡ true → ⊥) → Contains clause l → f (neg_ℤ l) ≡ true → IsQuiet f clause
quiet_by_true f clause l not_false here on = record {
  closed = λ i d lt others. by_not_false (f (neg_ℤ (slice_index_or clause i d))) (λ off.
      not_false (others_at f clause (slice_index_or clause i d) l others here (λ e. false≢true (sym off ∙ ap (λ m. f (neg_ℤ m)) (sym e) ∙ on))));
  met = λ all. not_false (All-contains (λ m. f m ≡ true) clause l all here);
}

-- two literals aren't false
pub quiet_by_two : (f : ℤ → Bool) (clause : List ℤ) (a b : ℤ) → Contains clause a → Contains clause b
    → a ≢ b → f a ≡ false → f b ≡ false → IsQuiet f clause
quiet_by_two f clause a b in_a in_b ne off_a off_b = record {
  closed = λ i d lt others. absurd
      (let no_a : (a ≢ slice_index_or clause i d) → ⊥ = λ n. false≢true (sym off_a ∙ others_at f clause (slice_index_or clause i d) a others in_a n) in
      let no_b : (b ≢ slice_index_or clause i d) → ⊥ = λ n. false≢true (sym off_b ∙ others_at f clause (slice_index_or clause i d) b others in_b n) in
      no_a (λ ea. no_b (λ eb. ne (ea ∙ sym eb))));
  met = λ all. false≢true (sym off_a ∙ All-contains (λ m. f m ≡ true) clause a all in_a);
}

-- a set that grows leaves a clause quiet as long as none of its literals is new
pub quiet_kept : (f g : ℤ → Bool) (clause : List ℤ) → ((l : ℤ) → f l ≡ true → g l ≡ true) → ((l : ℤ) → Contains clause l → g l ≡ true → f l ≡ true)
    → IsQuiet f clause → IsQuiet g clause
quiet_kept f g clause grows back q = record {
  closed = λ i d lt others. grows (neg_ℤ (slice_index_or clause i d)) (q.closed i d lt
      (λ j e jt ne. back (slice_index_or clause j e) (All-contains_itself clause j e jt) (others j e jt ne)));
  met = λ bad. q.met (λ j e jt. back (slice_index_or clause j e) (All-contains_itself clause j e jt) (bad j e jt));
}

pub quiet_at : (marks : List Bool) (clause : List ℤ) (k : ℕ) → IsConsistent marks → k < length clause
    → is_false marks (neg_ℤ (literal_at clause k)) ≡ true → IsQuiet (is_false marks) clause
quiet_at marks clause k apart h on =
    quiet_by_true (is_false marks) clause (literal_at clause k) (λ f. apart (literal_at clause k) f on) (Contains-get_or clause k (pos 0) h) on

pub quiet_at_two : (marks : List Bool) (clause : List ℤ) (j k : ℕ) → j < length clause → k < length clause
    → literal_at clause j ≢ literal_at clause k → IsOpen marks (literal_at clause j) → IsOpen marks (literal_at clause k)
    → IsQuiet (is_false marks) clause
quiet_at_two marks clause j k hj hk ne a b =
    quiet_by_two (is_false marks) clause (literal_at clause j) (literal_at clause k) (Contains-get_or clause j (pos 0) hj) (Contains-get_or clause k (pos 0) hk) ne a.0 b.0

pub seen_false : (marks : List Bool) (clause : List ℤ) (n : ℕ) (o : Option ℕ) → HasSeen marks clause n o
    → is_false marks (literal_at clause n) ≡ true → HasSeen marks clause (n + 1) o
seen_false marks clause n None h here = below_more _ _ h here
seen_false marks clause n (Some k) h here = record { below = h.below; is_open = h.is_open; others = below_more _ _ h.others (λ _. here) }

pub seen_open : (marks : List Bool) (clause : List ℤ) (n : ℕ) → HasSeen marks clause n None → n < length clause
    → IsOpen marks (literal_at clause n) → HasSeen marks clause (n + 1) (Some n)
seen_open marks clause n h lt here = record { below = lt; is_open = here; others = below_more _ _ (λ i k _. h i k) (λ e. absurd (e refl)) }

pub seen_again : (marks : List Bool) (clause : List ℤ) (n k : ℕ) → HasSeen marks clause n (Some k)
    → literal_at clause k ≡ literal_at clause n → HasSeen marks clause (n + 1) (Some k)
seen_again marks clause n k h e = record { below = h.below; is_open = h.is_open; others = below_more _ _ h.others (λ ne. absurd (ne (sym e))) }

pub false_all : (marks : List Bool) (clause : List ℤ) → HasSeen marks clause (length clause) None → IsFalse (is_false marks) clause
false_all marks clause h = All-from_get_or (λ l. is_false marks l ≡ true) clause (pos 0) h
