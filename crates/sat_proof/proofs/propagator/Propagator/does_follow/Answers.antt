-- Over clauses that conflict each follows, else `follows` decides.
use Rattle.std.proofs.Common.{sym, subst, append-nil, ◌∙◌}
use Rattle.sat_proof.specs.Follows.{Follows}
use Rattle.sat_proof.specs.Log.{before, clause_at}
use Rattle.sat_proof.proofs.Bases.{follows_contrary, ready_back, entry}
use Rattle.sat_proof.proofs.propagator.Propagator.does_follow.Goals as goal

pub returns-then-refuted-clause-yes : goal.returns-then-refuted-clause-yes
returns-then-refuted-clause-yes c _ = follows_contrary (before c.args.query.now c.args.log.now c.args.k) (clause_at c.args.log.now c.args.k)
    (c.requires.ready.contrary c.if-refuted.true)

pub returns-clause-yes : goal.returns-clause-yes
returns-clause-yes c e = subst (Follows (before c.args.query.now c.args.log.now c.args.k))
    (append-nil c.as_slice-literals.result.now ∙ entry c.args.log.now c.args.k c.as_slice-literals.result.now c.index-log-k.result c.requires.below c.as_slice-literals.ensures.value c.index-log-k.is)
    (c.follows.ensures.yes e)

pub returns-clause-no : goal.returns-clause-no
returns-clause-no c e h = c.follows.ensures.no e (subst (Follows (before c.args.query.now c.args.log.now c.args.k))
    (sym (append-nil c.as_slice-literals.result.now ∙ entry c.args.log.now c.args.k c.as_slice-literals.result.now c.index-log-k.result c.requires.below c.as_slice-literals.ensures.value c.index-log-k.is))
    h)

pub returns-clause-ready : goal.returns-clause-ready
returns-clause-ready c = ready_back c.args.self.now c.follows.new.self c.args.refuted (before c.args.query.now c.args.log.now c.args.k)
    c.requires.ready c.follows.ensures.back
