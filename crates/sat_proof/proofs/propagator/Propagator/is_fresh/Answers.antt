-- A clause is fresh where each test says so, and not where one fails.
use Rattle.std.proofs.Common.{refl, length, ◌<◌, arith, subst, sym, append-nil}
use Rattle.sat_proof.specs.Premises.{all_in}
use Rattle.sat_proof.specs.Follows.{Follows}
use Rattle.sat_proof.proofs.Bases.{back_more}
use Rattle.sat_proof.proofs.News.{stale_not_fresh, fresh_from}
use Rattle.sat_proof.proofs.propagator.Propagator.is_fresh.Goals as goal

pub returns-then-not-is_new-clause-no : goal.returns-then-not-is_new-clause-no
returns-then-not-is_new-clause-no c _ fresh = stale_not_fresh (all_in c.args.clauses.now) c.args.literals.now (c.if-not-is_new.ensures.no refl) fresh

pub returns-then-not-follows-clause-no : goal.returns-then-not-follows-clause-no
returns-then-not-follows-clause-no c _ fresh = c.if-not-follows.ensures.no refl
    (subst (Follows (all_in c.args.clauses.now)) (sym (append-nil c.args.literals.now)) fresh.follows)

pub returns-clause-yes : goal.returns-clause-yes
returns-clause-yes c e =
    let some : 0 < length c.args.literals.now = omega arith in
    fresh_from (all_in c.args.clauses.now) c.args.literals.now some (c.if-not-is_new.ensures.yes refl)
    (subst (Follows (all_in c.args.clauses.now)) (append-nil c.args.literals.now) (c.if-not-follows.ensures.yes refl))
    (c.is_tight.ensures.yes e)

pub returns-clause-back : goal.returns-clause-back
returns-clause-back c = back_more c.args.self.now c.follows.new.self c.is_tight.new.self (all_in c.args.clauses.now) c.follows.ensures.back c.is_tight.ensures.back
