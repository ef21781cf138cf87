-- What follows from the clauses of a query follows from those of any other list of the same clauses: which list a log
-- was checked against makes no difference.
use Rattle.std.proofs.Common.{ℕ, List}
use Rattle.std.specs.Prelude.{ℤ, Contains}
use Rattle.std.specs.List.{All}
use Rattle.std.proofs.lemmas.List.Elements.{All-contains, All-contains_itself, All-weaker}
use Rattle.design_circuit.specs.Job.{Job}
use Rattle.design_cell.specs.declared.value.Value.{Value}
use Rattle.law_model.specs.Query.{IsQuery}
use Rattle.sat_proof.specs.Follows.{IsTight, without}
use Rattle.sat_proof.specs.declared.clause.Cnf.{Cnf}
use Rattle.sat_proof.specs.Log.{AreFresh, AreSameSet, before, clause_at}
use Rattle.sat_query.proofs.MoreClauses.{before_more, follows_more}
pub use Rattle.sat_query.proofs.MoreClauses.{refutes_more}
use Rattle.sat_query.specs.Core.{AreAmong}

-- Two queries of a place have the same clauses.
pub same_clauses : (j : Job) (certain : ℕ → Value) (place : ℕ) (a b : Cnf) → IsQuery j certain place a
    → IsQuery j certain place b → AreAmong a.clauses b.clauses
same_clauses j certain place a b first second clause here = second.all clause (first.each clause here)

-- A clause equals none of the one where it equals none of the other.
none_same : (a b : List (List ℤ)) (clause : List ℤ) → AreAmong b a → All (λ d. AreSameSet clause d → ⊥) a
    → All (λ d. AreSameSet clause d → ⊥) b
none_same a b clause within none =
    All-weaker (Contains b) (λ d. AreSameSet clause d → ⊥)
    (λ d here. All-contains (λ x. AreSameSet clause x → ⊥) a d none (within d here)) b (All-contains_itself b)

tight_same : (a b : List (List ℤ)) (clause : List ℤ) → AreAmong b a → IsTight a clause → IsTight b clause
tight_same a b clause within tight k less follows = tight k less (follows_more b a within (without k clause) follows)

pub fresh_same : (a b log : List (List ℤ)) → AreAmong a b → AreAmong b a → AreFresh a log → AreFresh b log
fresh_same a b log there back fresh k less =
    let is = fresh k less in
    let old = before a log k in
    let other = before b log k in
    let forth : AreAmong old other = before_more a b log k there in
    let home : AreAmong other old = before_more b a log k back in
    record {
      filled = is.filled;
      no_tautology = is.no_tautology;
      «new» = none_same old other (clause_at log k) home is.«new»;
      follows = follows_more old other forth (clause_at log k) is.follows;
      tight = tight_same old other (clause_at log k) home is.tight;
    }
