-- Laws of what follows, by closed sets: it holds in every model, and stays so with more clauses or literals.
use Rattle.std.proofs.Common.{◌≡◌, ◌≢◌, Bool, true, List, ap, sym, ◌∙◌}
use Rattle.std.proofs.lemmas.List.Elements.{All-contains, All-contains_itself, All-weaker}
use Rattle.std.specs.Prelude.{ℤ, neg_ℤ}
use Rattle.std.specs.List.{All, Contains}
use Rattle.sat_proof.specs.Closed.{IsFalse, IsQuiet, AreOthersFalse, Resists, NoneResists}
use Rattle.sat_proof.specs.Follows.{Adds, assumed, only, Follows, falsified, opposed}
use Rattle.sat_proof.specs.Log.{HasNoComplements}
use Rattle.sat_proof.proofs.Codes.{neg-neg}
use Rattle.sat_proof.proofs.Quiet.{quiet_by_true}

-- a fact at each element, from the same fact at each that the list contains
pub all_from : {X : Type 0} (P : X → Type 0) (xs : List X) → ((x : X) → Contains xs x → P x) → All P xs
all_from P xs h = All-weaker (Contains xs) P h xs (All-contains_itself xs)

-- what clauses add is false in no set that resists, and its complement is
added_in : (clauses : List (List ℤ)) (clause : List ℤ) (f : ℤ → Bool) → Resists clauses clause f
    → (l : ℤ) → Adds clauses clause l → f (neg_ℤ l) ≡ true
added_in clauses clause f r l (assumed m here) = ap f (neg-neg m) ∙ All-contains (λ k. f k ≡ true) clause m r.assumed here
added_in clauses clause f r l (only c m is_clause here others) =
    All-contains (λ k. AreOthersFalse f c k → f (neg_ℤ k) ≡ true) c l (All-contains (IsQuiet f) clauses c r.quiet is_clause).closed here
    (all_from (λ k. k ≢ l → f k ≡ true) c (λ k k_here ne. sym (ap f (neg-neg k)) ∙ added_in clauses clause f r (neg_ℤ k) (others k k_here ne)))

-- no set resists a clause that follows
pub none_resists : (clauses : List (List ℤ)) (clause : List ℤ) → Follows clauses clause → NoneResists clauses clause
none_resists clauses clause (opposed l here other) f r = All-contains (λ m. Contains clause (neg_ℤ m) → ⊥) clause l r.apart here other
none_resists clauses clause (falsified c is_clause all) f r =
    (All-contains (IsQuiet f) clauses c r.quiet is_clause).met
    (all_from (λ k. f k ≡ true) c (λ k here. sym (ap f (neg-neg k)) ∙ added_in clauses clause f r (neg_ℤ k) (all k here)))

-- No model of the clauses makes a clause false that follows: its false literals resist.
pub sound : (clauses : List (List ℤ)) (clause : List ℤ) (f : ℤ → Bool) → NoneResists clauses clause
    → ((l : ℤ) → f l ≡ true → f (neg_ℤ l) ≡ true → ⊥) → All (λ c. (l : ℤ) × Contains c l × (f (neg_ℤ l) ≡ true)) clauses
    → IsFalse f clause → HasNoComplements clause → ⊥
sound clauses clause f none apart meets all no_complements = none f (record {
  assumed = all;
  apart = no_complements;
  quiet = All-weaker (λ c. (l : ℤ) × Contains c l × (f (neg_ℤ l) ≡ true)) (IsQuiet f)
      (λ c (l, here, on). quiet_by_true f c l (λ off. apart l off on) here on) clauses meets;
})

-- a clause that contains one that follows
pub wider : (clauses : List (List ℤ)) (small large : List ℤ) → All (Contains large) small → NoneResists clauses small → NoneResists clauses large
wider clauses small large sub none f r = none f (record {
  assumed = all_from (λ l. f l ≡ true) small (λ l here. All-contains (λ m. f m ≡ true) large l r.assumed (All-contains (Contains large) small l sub here));
  apart = all_from (λ l. Contains small (neg_ℤ l) → ⊥) small (λ l here other.
      All-contains (λ m. Contains large (neg_ℤ m) → ⊥) large l r.apart (All-contains (Contains large) small l sub here) (All-contains (Contains large) small (neg_ℤ l) sub other));
  quiet = r.quiet;
})
