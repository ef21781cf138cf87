-- The tight part of a candidate is fresh, since the candidate has its last literal.
use Rattle.std.proofs.Common.{◌≡◌, ◌∙◌, ◌++◌, ◌-◌, ◌∷◌, [], sym, subst, ap, List, length, pos}
use Rattle.std.specs.Prelude.{ℤ}
use Rattle.sat_proof.specs.Premises.{all_in}
use Rattle.sat_proof.specs.Closed.{NoneResists}
use Rattle.sat_search.specs.Learn.{IsExtended, last_of, front_of}
use Rattle.sat_search.proofs.Learning.{fresh_if_asserting, turned_wider, last_below}
use Rattle.sat_search.proofs.learn.learn_from.Goals as goal

pub returns-then-branch-clause-fresh : goal.returns-then-branch-clause-fresh
returns-then-branch-clause-fresh c =
    let (f, h) = c.requires.candidate.candidate in
    let kept_is : c.push_at.new.kept.items ≡ last_of c.args.candidate.now ∷ [] =
    c.in_ok-push_at.ensures ∙ ap (λ (xs : List ℤ). xs ++ last_of c.args.candidate.now ∷ []) c.new-kept.ensures.items in
    fresh_if_asserting (all_in c.args.clauses.now) (last_of c.args.candidate.now) (front_of c.args.candidate.now) c.tighten.new.kept.items f h.asserting
    (subst (λ (xs : List ℤ). IsExtended xs (front_of c.args.candidate.now) c.tighten.new.kept.items) kept_is c.in_ok-tighten.ensures.extended)
    (c.requires.candidate.room (length c.args.candidate.now - 1) (pos 0) (last_below c.args.candidate.now h.filled)).nonzero
    (c.in_ok-tighten.ensures.yes c.if-branch.true) (c.in_ok-tighten.ensures.needed c.if-branch.true)

pub returns-else-branch-clause-none : goal.returns-else-branch-clause-none
returns-else-branch-clause-none c none =
    let (f, h) = c.requires.candidate.candidate in
    let kept_is : c.push_at.new.kept.items ≡ last_of c.args.candidate.now ∷ [] =
    c.in_ok-push_at.ensures ∙ ap (λ (xs : List ℤ). xs ++ last_of c.args.candidate.now ∷ []) c.new-kept.ensures.items in
    c.in_ok-tighten.ensures.no c.if-branch.false
    (subst (λ (xs : List ℤ). NoneResists (all_in c.args.clauses.now) (xs ++ front_of c.args.candidate.now)) (sym kept_is)
    (turned_wider (all_in c.args.clauses.now) c.args.candidate.now h.filled none))
