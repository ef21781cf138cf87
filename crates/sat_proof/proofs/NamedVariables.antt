-- A fresh log names only variables that its query names, and no clause of it has the literal 0.
use Rattle.std.proofs.Common.{◌≡◌, ◌≢◌, ℕ, ◌<◌, ◌≤◌, Bool, true, false, leb, List, [], length, sym, ap, refl, subst, ◌∙◌, ◌⊎◌, inl, inr, zero, suc, take, arith, add-one, nat_abs}
use Rattle.std.proofs.lemmas.Bool.{leb-true, leb-false}
use Rattle.std.proofs.lemmas.List.{take_all}
use Rattle.std.proofs.lemmas.List.Elements.{All-contains, All-append, All-from_get_or, All-more, All-nil, Contains-get_or}
use Rattle.std.specs.Prelude.{ℤ, pos, negsuc, neg_ℤ}
use Rattle.std.specs.List.{All, Contains}
use Rattle.sat_proof.specs.Assignment.{HasNoZero}
use Rattle.sat_proof.specs.Closed.{IsQuiet, AreOthersFalse, NoneResists}
use Rattle.sat_proof.specs.Follows.{without}
use Rattle.sat_proof.specs.Log.{AreFresh, Fit, HasNoComplements, IsFresh, before, clause_at}
use Rattle.sat_proof.specs.Status.{literal_at}
use Rattle.sat_proof.proofs.Codes.{literal_cases}
use Rattle.sat_proof.proofs.ClosedSets.{all_from, none_resists}
use Rattle.sat_proof.proofs.Deciding.{follows_if_none}
use Rattle.sat_proof.proofs.News.{in_without}
use Rattle.sat_proof.proofs.Quiet.{others_at}

-- a clause with no two complements has no 0, which is its own
zero_free : (clause : List ℤ) → HasNoComplements clause → HasNoZero clause
zero_free clause apart = all_from (λ l. l ≢ pos 0) clause (λ l here e.
    All-contains (λ m. Contains clause (neg_ℤ m) → ⊥) clause l apart here
    (subst (Contains clause) (e ∙ sym (ap neg_ℤ e)) here))

pub fresh_no_zero : (query log : List (List ℤ)) → AreFresh query log → All HasNoZero log
fresh_no_zero query log fresh = All-from_get_or HasNoZero log [] (λ k lt. zero_free (clause_at log k) (fresh k lt).no_tautology)

-- a test of m turned: true where m is l, false where it is the complement, else as it was
turned_by : (l m : ℤ) → (m ≡ l) ⊎ (m ≢ l) → (m ≡ neg_ℤ l) ⊎ (m ≢ neg_ℤ l) → Bool → Bool
turned_by l m (inl same) other b = true
turned_by l m (inr differs) (inl opposite) b = false
turned_by l m (inr differs) (inr apart) b = b

turned_same : (l m : ℤ) (same : (m ≡ l) ⊎ (m ≢ l)) (other : (m ≡ neg_ℤ l) ⊎ (m ≢ neg_ℤ l)) (b : Bool) → m ≡ l
    → turned_by l m same other b ≡ true
unfolding turned_by
turned_same l m (inl same) other b e = refl
turned_same l m (inr differs) other b e = absurd (differs e)

turned_other : (l m : ℤ) (same : (m ≡ l) ⊎ (m ≢ l)) (other : (m ≡ neg_ℤ l) ⊎ (m ≢ neg_ℤ l)) (b : Bool) → m ≢ l → m ≢ neg_ℤ l
    → turned_by l m same other b ≡ b
unfolding turned_by
turned_other l m (inl same) other b ne apart = absurd (ne same)
turned_other l m (inr differs) (inl opposite) b ne apart = absurd (apart opposite)
turned_other l m (inr differs) (inr away) b ne apart = refl

-- the set f with a literal put in and its complement taken out
turned : (ℤ → Bool) → ℤ → ℤ → Bool
turned f l m = turned_by l m (literal_cases m l) (literal_cases m (neg_ℤ l)) (f m)

-- a literal of a smaller variable is neither a foreign one nor its complement
apart_from : (v : ℕ) (l m : ℤ) → (nat_abs l ≤ v → ⊥) → nat_abs m ≤ v → m ≢ l
apart_from v l m foreign small e = foreign (subst (λ n. nat_abs n ≤ v) e small)

abs-neg : (l : ℤ) → nat_abs (neg_ℤ l) ≡ nat_abs l
abs-neg (pos zero) = refl
abs-neg (pos (suc n)) = refl
abs-neg (negsuc n) = refl

module _ (v : ℕ) (clauses : List (List ℤ)) (fit : Fit v clauses) (f : ℤ → Bool) (l : ℤ) (foreign : nat_abs l ≤ v → ⊥) where
  foreign_other : nat_abs (neg_ℤ l) ≤ v → ⊥
  foreign_other small = foreign (subst (λ n. n ≤ v) (abs-neg l) small)

  -- the turned set has the same literals of smaller variables
  turned_small : (m : ℤ) → nat_abs m ≤ v → turned f l m ≡ f m
  unfolding turned
  turned_small m small = turned_other l m (literal_cases m l) (literal_cases m (neg_ℤ l)) (f m)
      (apart_from v l m foreign small) (apart_from v (neg_ℤ l) m foreign_other small)

  -- so it leaves the clauses quiet
  turned_quiet : All (IsQuiet f) clauses → All (IsQuiet (turned f l)) clauses
  turned_quiet quiet = all_from (IsQuiet (turned f l)) clauses (λ d here.
      let q : IsQuiet f d = All-contains (IsQuiet f) clauses d quiet here in
      let small : All (λ m. nat_abs m ≤ v) d = All-contains (λ c. All (λ m. nat_abs m ≤ v) c) clauses d fit here in
      let at : (m : ℤ) → Contains d m → nat_abs m ≤ v = λ m in_d. All-contains (λ n. nat_abs n ≤ v) d m small in_d in
      let back : (m : ℤ) → Contains d m → turned f l m ≡ true → f m ≡ true = λ m in_d on. sym (turned_small m (at m in_d)) ∙ on in
      record {
        closed = all_from (λ m. AreOthersFalse (turned f l) d m → turned f l (neg_ℤ m) ≡ true) d (λ m in_d others.
            turned_small (neg_ℤ m) (subst (λ n. n ≤ v) (sym (abs-neg m)) (at m in_d))
            ∙ All-contains (λ k. AreOthersFalse f d k → f (neg_ℤ k) ≡ true) d m q.closed in_d
            (all_from (λ k. k ≢ m → f k ≡ true) d (λ k k_in ne. back k k_in (others_at (turned f l) d m k others k_in ne))));
        met = λ bad. q.met (all_from (λ k. f k ≡ true) d (λ k k_in.
            back k k_in (All-contains (λ n. turned f l n ≡ true) d k bad k_in)));
      })

-- A literal of a foreign variable isn't needed: without it the clause still follows.
foreign_not_tight : (v : ℕ) (clauses : List (List ℤ)) (clause : List ℤ) (k : ℕ) → Fit v clauses → k < length clause
    → HasNoComplements clause → NoneResists clauses clause → (nat_abs (literal_at clause k) ≤ v → ⊥) → NoneResists clauses (without k clause)
unfolding turned
foreign_not_tight v clauses clause k fit lt apart none foreign f r =
    let l : ℤ = literal_at clause k in
    let l_in : Contains clause l = Contains-get_or clause k (pos 0) lt in
    let no_other : Contains clause (neg_ℤ l) → ⊥ = All-contains (λ m. Contains clause (neg_ℤ m) → ⊥) clause l apart l_in in
    none (turned f l) (record {
      assumed = all_from (λ m. turned f l m ≡ true) clause (λ m here. elim (literal_cases m l) [
        | inl e ↦ turned_same l m (literal_cases m l) (literal_cases m (neg_ℤ l)) (f m) e
        | inr ne ↦ turned_other l m (literal_cases m l) (literal_cases m (neg_ℤ l)) (f m) ne
            (λ e. no_other (subst (Contains clause) e here))
            ∙ All-contains (λ n. f n ≡ true) (without k clause) m r.assumed (in_without clause k m lt here ne)
      ]);
      apart = apart;
      quiet = turned_quiet v clauses fit f l foreign r.quiet;
    })

small_or_foreign : (v n : ℕ) → (n ≤ v) ⊎ (n ≤ v → ⊥)
small_or_foreign v n = elim (leb n v) as (λ b. leb n v ≡ b → (n ≤ v) ⊎ (n ≤ v → ⊥)) [
  | true ↦ λ e. inl (leb-true n v e)
  | false ↦ λ e. inr (λ small. let over : v < n = leb-false n v e in omega arith)
] refl

-- a clause that is fresh over clauses names only variables up to theirs
fresh_small : (v : ℕ) (clauses : List (List ℤ)) (clause : List ℤ) → Fit v clauses → IsFresh clauses clause → All (λ l. nat_abs l ≤ v) clause
fresh_small v clauses clause fit fresh = All-from_get_or (λ l. nat_abs l ≤ v) clause (pos 0) (λ k lt. elim (small_or_foreign v (nat_abs (literal_at clause k))) [
  | inl small ↦ small
  | inr foreign ↦ absurd (fresh.tight k lt (follows_if_none clauses (without k clause)
      (foreign_not_tight v clauses clause k fit lt fresh.no_tautology (none_resists clauses clause fresh.follows) foreign)))
])

first_fit : (v : ℕ) (query log : List (List ℤ)) (n : ℕ) → n ≤ length log → Fit v query → AreFresh query log → Fit v (take n log)
first_fit v query log zero le fit fresh = All-nil (λ c. All (λ l. nat_abs l ≤ v) c)
first_fit v query log (suc n) le fit fresh =
    let rest : Fit v (take n log) = first_fit v query log n (omega arith) fit fresh in
    let this : All (λ l. nat_abs l ≤ v) (clause_at log n) = fresh_small v (before query log n) (clause_at log n)
    (All-append (λ c. All (λ l. nat_abs l ≤ v) c) query (take n log) fit rest) (fresh n (omega arith)) in
    subst (λ (m : ℕ). Fit v (take m log)) (add-one n) (All-more (λ c. All (λ l. nat_abs l ≤ v) c) log n [] (omega arith) rest this)

-- The law: a fresh log names only variables that its query's clauses name.
pub fresh_fit : (v : ℕ) (query log : List (List ℤ)) → Fit v query → AreFresh query log → Fit v log
fresh_fit v query log fit fresh = subst (Fit v) (take_all (length log) log (omega arith)) (first_fit v query log (length log) (omega arith) fit fresh)
