-- One more clause that is not covered, and all of them at the end.
use Rattle.std.proofs.Common.{◌<◌, ◌≤◌, length, List, ℤ, [], sym, subst, arith}
use Rattle.std.proofs.lemmas.Bool.{iff_false}
use Rattle.std.proofs.lemmas.List.{take_all}
use Rattle.std.proofs.lemmas.List.Elements.{All-more, All-same}
use Rattle.sat_proof.specs.Premises.{all_in}
use Rattle.sat_proof.specs.Closed.{IsFalse}
use Rattle.sat_proof.specs.Code.{is_false}
use Rattle.sat_proof.proofs.fresh.covers_any.Goals as goal

pub loop-n-preserved : goal.loop-n-preserved
loop-n-preserved c =
    let lt : c.loop-n.n < length (all_in c.args.clauses.now) = omega (arith) in
    All-more (λ d. IsFalse (is_false c.args.marks.now) d → ⊥) (all_in c.args.clauses.now) c.loop-n.n [] lt c.loop-n.invariant
    (subst (λ (d : List ℤ). IsFalse (is_false c.args.marks.now) d → ⊥) c.literals.ensures.value (λ bad. iff_false c.covers.ensures c.if-covers.false bad))

pub returns-clause-no : goal.returns-clause-no
returns-clause-no c _ =
    let le : length (all_in c.args.clauses.now) ≤ c.loop-n.n = omega (arith) in
    All-same (λ d. IsFalse (is_false c.args.marks.now) d → ⊥) (all_in c.args.clauses.now) _ (sym (take_all c.loop-n.n (all_in c.args.clauses.now) le)) c.loop-n.invariant
