-- One more literal, and all of them at the end.
use Rattle.std.proofs.Common.{◌++◌, refl, sym, subst, List, take, arith, append-nil}
use Rattle.std.specs.Prelude.{ℤ}
use Rattle.std.specs.List.{All}
use Rattle.std.proofs.lemmas.List.{take_all}
use Rattle.sat_proof.specs.Premises.{all_in}
use Rattle.sat_proof.specs.Closed.{NoneResists}
use Rattle.sat_proof.specs.Code.{HasRoom}
use Rattle.sat_proof.specs.Trail.{held}
use Rattle.sat_proof.proofs.Backs.{leads_more, leads_none}
use Rattle.sat_proof.proofs.Trails.{over_sized}
use Rattle.sat_search.specs.Reach.{IsFrom}
use Rattle.sat_search.proofs.Reaching.{more_taken}
use Rattle.sat_search.proofs.reach.reach_all.Goals as goal

pub loop-k-init : goal.loop-k-init
loop-k-init c = record {
  settled = c.requires.settled;
  from = λ d from. subst (IsFrom c.args.propagator.now.trail.marks.items (all_in c.args.clauses.now)) (sym (append-nil d)) from;
  back = leads_none c.args.propagator.now (all_in c.args.clauses.now) (λ on. (c.requires.settled.watches on).laced);
}

pub reach-requires-clause-room : goal.reach-requires-clause-room
reach-requires-clause-room c = subst (λ n. All (HasRoom n) c.args.literals.now) (sym (over_sized c.args.propagator.now.trail c.loop-k.propagator.trail c.loop-k.invariant.back.over)) c.requires.room

pub returns-then-reach-clause-met : goal.returns-then-reach-clause-met
returns-then-reach-clause-met c d from = record {
  follows = subst (NoneResists (all_in c.args.clauses.now)) (more_taken d c.args.literals.now c.loop-k.k c.loop-k-test.true)
      (c.if-reach.ensures.conflict refl (d ++ take c.loop-k.k c.args.literals.now) (c.loop-k.invariant.from d from));
  fixed = (
    held c.loop-k.propagator.trail,
    record {
      quiet = c.loop-k.invariant.settled.quiet;
      apart = c.loop-k.propagator.trail.in_step.consistent;
      assumed = (c.loop-k.invariant.from d from).assumed;
    },
  );
}

pub returns-then-reach-clause-back : goal.returns-then-reach-clause-back
returns-then-reach-clause-back c = leads_more c.args.propagator.now c.loop-k.propagator c.reach.new.propagator (all_in c.args.clauses.now) c.loop-k.invariant.back c.reach.ensures.back

pub loop-k-preserved : goal.loop-k-preserved
loop-k-preserved c = record {
  settled = c.if-reach.ensures.settled refl;
  from = λ d from. subst (IsFrom c.reach.new.propagator.trail.marks.items (all_in c.args.clauses.now)) (more_taken d c.args.literals.now c.loop-k.k c.loop-k-test.true)
      (c.if-reach.ensures.from refl (d ++ take c.loop-k.k c.args.literals.now) (c.loop-k.invariant.from d from));
  back = leads_more c.args.propagator.now c.loop-k.propagator c.reach.new.propagator (all_in c.args.clauses.now) c.loop-k.invariant.back c.reach.ensures.back;
}

pub returns-clause-from : goal.returns-clause-from
returns-clause-from c d from = subst (λ (xs : List ℤ). IsFrom c.loop-k.propagator.trail.marks.items (all_in c.args.clauses.now) (d ++ xs))
    (take_all c.loop-k.k c.args.literals.now (omega arith)) (c.loop-k.invariant.from d from)
