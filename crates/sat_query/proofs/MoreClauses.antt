-- A log that refutes some clauses refutes all lists that have them.
use Rattle.std.proofs.Common.{ℕ, List, take, ⊎_elim}
use Rattle.std.specs.Prelude.{ℤ, neg_ℤ, Contains}
use Rattle.std.specs.List.{All}
use Rattle.std.proofs.lemmas.List.Elements.{All-contains, All-contains_itself, All-weaker, Contains-append_cases, Contains-append_left, Contains-append_right}
use Rattle.sat_proof.specs.Follows.{Adds, Follows, assumed, falsified, only, opposed}
use Rattle.sat_proof.specs.Log.{Refutes, before, clause_at}
use Rattle.sat_query.specs.Core.{AreAmong}

adds_more : (some all : List (List ℤ)) → AreAmong some all → (clause : List ℤ) (l : ℤ) → Adds some clause l
    → Adds all clause l
adds_more some all among clause l (assumed k here) = assumed k here
adds_more some all among clause l (only c k here inside others) =
    only c k (among c here) inside (λ m has other. adds_more some all among clause (neg_ℤ m) (others m has other))

pub follows_more : (some all : List (List ℤ)) → AreAmong some all → (clause : List ℤ) → Follows some clause
    → Follows all clause
follows_more some all among clause (falsified c here each) =
    falsified c (among c here) (λ m has. adds_more some all among clause (neg_ℤ m) (each m has))
follows_more some all among clause (opposed l here there) = opposed l here there

pub before_more : (some all log : List (List ℤ)) (k : ℕ) → AreAmong some all
    → AreAmong (before some log k) (before all log k)
before_more some all log k among clause here =
    ⊎_elim (λ (left : Contains some clause). Contains-append_left all (take k log) clause (among clause left))
    (λ (right : Contains (take k log) clause). Contains-append_right all (take k log) clause right)
    (Contains-append_cases some (take k log) clause here)

pub refutes_more : (some all log : List (List ℤ)) → AreAmong some all → Refutes some log → Refutes all log
refutes_more some all log among refutes = record {
  each = λ k less. follows_more (before some log k) (before all log k) (before_more some all log k among)
      (clause_at log k) (refutes.each k less);
  ends = refutes.ends;
}

-- What holds of all clauses holds of those that are among them.
pub all_among : (P : List ℤ → Type 0) (some all : List (List ℤ)) → AreAmong some all → All P all → All P some
all_among P some all among holds =
    All-weaker (Contains some) P (λ clause here. All-contains P all clause holds (among clause here)) some
    (All-contains_itself some)
