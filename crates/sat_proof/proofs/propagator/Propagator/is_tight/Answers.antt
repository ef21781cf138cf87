-- One more literal that is needed, and all of them at the end.
use Rattle.std.proofs.Common.{refl, sym, subst, ◌<◌, below_more, arith}
use Rattle.sat_proof.specs.Premises.{all_in}
use Rattle.sat_proof.specs.Follows.{Follows}
use Rattle.sat_proof.proofs.Bases.{back_none, back_more, without_is}
use Rattle.sat_proof.proofs.propagator.Propagator.is_tight.Goals as goal

pub returns-then-follows-clause-no : goal.returns-then-follows-clause-no
returns-then-follows-clause-no c _ tight = tight c.loop-k.k c.loop-k-test.true
    (subst (Follows (all_in c.args.clauses.now)) (without_is c.args.literals.now c.loop-k.k) (c.if-follows.ensures.yes refl))

pub returns-then-follows-clause-back : goal.returns-then-follows-clause-back
returns-then-follows-clause-back c = back_more c.args.self.now c.loop-k.self c.follows.new.self (all_in c.args.clauses.now) c.loop-k.invariant.back c.follows.ensures.back

pub loop-k-init : goal.loop-k-init
loop-k-init c = record { back = back_none c.args.self.now (all_in c.args.clauses.now) c.requires.base; so_far = λ j lt. absurd (omega arith) }

pub loop-k-preserved : goal.loop-k-preserved
loop-k-preserved c = record {
  back = back_more c.args.self.now c.loop-k.self c.follows.new.self (all_in c.args.clauses.now) c.loop-k.invariant.back c.follows.ensures.back;
  so_far = below_more _ _ c.loop-k.invariant.so_far (λ h. c.if-follows.ensures.no refl
      (subst (Follows (all_in c.args.clauses.now)) (sym (without_is c.args.literals.now c.loop-k.k)) h));
}

pub returns-clause-yes : goal.returns-clause-yes
returns-clause-yes c _ j lt = let h : j < c.loop-k.k = omega arith in c.loop-k.invariant.so_far j h
