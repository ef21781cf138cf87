-- A clash makes a tautology, else the clauses that are covered decide.
use Rattle.std.proofs.Common.{refl, subst, List, Bool}
use Rattle.std.proofs.lemmas.Bool.{not-true, not-false}
use Rattle.sat_proof.specs.Premises.{all_in}
use Rattle.sat_proof.specs.Fresh.{IsCovered, IsUnmatched}
use Rattle.sat_proof.proofs.News.{clash_stale, covered_stale, unmatched_new}
use Rattle.sat_proof.proofs.fresh.marks_new.Goals as goal

pub returns-then-assume-clause-no : goal.returns-then-assume-clause-no
returns-then-assume-clause-no c _ = clash_stale c.args.seen.now.marks.items c.assume.new.trail.marks.items (all_in c.args.clauses.now) c.args.literals.now
    c.requires.empty.clear (c.if-assume.ensures.clash refl)

pub returns-clause-yes : goal.returns-clause-yes
returns-clause-yes c e = unmatched_new c.args.seen.now.marks.items c.assume.new.trail.marks.items (all_in c.args.clauses.now) c.args.literals.now
    c.requires.empty.clear (c.if-assume.ensures.done refl) (subst (λ (ms : List Bool). IsUnmatched ms (all_in c.args.clauses.now) c.args.literals.now) c.deref.ensures.value (c.finds_covered.ensures.no (not-true c.finds_covered.result e)))

pub returns-clause-no : goal.returns-clause-no
returns-clause-no c e = covered_stale c.args.seen.now.marks.items c.assume.new.trail.marks.items (all_in c.args.clauses.now) c.args.literals.now
    c.requires.empty.clear (c.if-assume.ensures.done refl) (subst (λ (ms : List Bool). IsCovered ms (all_in c.args.clauses.now)) c.deref.ensures.value (c.finds_covered.ensures.yes (not-false c.finds_covered.result e)))
