-- The conflict comes with a literal that is kept, with one of the rest, or nowhere.
use Rattle.std.proofs.Common.{[], sym, subst}
use Rattle.std.specs.List.{All}
use Rattle.sat_proof.specs.Premises.{all_in}
use Rattle.sat_proof.specs.Code.{HasRoom}
use Rattle.sat_proof.specs.Trail.{held}
use Rattle.sat_proof.proofs.Backs.{leads_more}
use Rattle.sat_proof.proofs.Trails.{over_sized}
use Rattle.sat_search.proofs.Reaching.{settled_base, from_base, taken_wider}
use Rattle.sat_search.proofs.tighten.seek.Goals as goal

pub reach_all-requires-clause-settled : goal.reach_all-requires-clause-settled
reach_all-requires-clause-settled c = settled_base c.args.propagator.now (all_in c.args.clauses.now) c.requires.base

pub returns-in-Some-clause-found : goal.returns-in-Some-clause-found
returns-in-Some-clause-found c = taken_wider (all_in c.args.clauses.now) c.args.kept.now _
    (c.in-Some.ensures.met [] (from_base c.args.propagator.now.trail (all_in c.args.clauses.now) c.requires.base.base)).follows

pub reach_all-requires-in-None-clause-room : goal.reach_all-requires-in-None-clause-room
reach_all-requires-in-None-clause-room c = subst (λ n. All (HasRoom n) c.args.rest.now) (sym (over_sized c.args.propagator.now.trail c.reach_all.new.propagator.trail c.reach_all.ensures.back.over)) c.requires.room_rest

pub returns-in-Some-reach_all-clause-found : goal.returns-in-Some-reach_all-clause-found
returns-in-Some-reach_all-clause-found c = (
  c.in-Some-reach_all.ensures.below,
  c.in-Some-reach_all.ensures.met c.args.kept.now
      (c.in-None.ensures.from [] (from_base c.args.propagator.now.trail (all_in c.args.clauses.now) c.requires.base.base)),
)

pub returns-in-Some-reach_all-clause-back : goal.returns-in-Some-reach_all-clause-back
returns-in-Some-reach_all-clause-back c = leads_more c.args.propagator.now c.reach_all.new.propagator c.reach_all-in-None.new.propagator (all_in c.args.clauses.now)
    c.reach_all.ensures.back c.reach_all-in-None.ensures.back

pub returns-in-None-reach_all-clause-found : goal.returns-in-None-reach_all-clause-found
returns-in-None-reach_all-clause-found c = (
  held c.reach_all-in-None.new.propagator.trail,
  record {
    quiet = c.in-None-reach_all.ensures.settled.quiet;
    apart = c.reach_all-in-None.new.propagator.trail.in_step.consistent;
    assumed = (c.in-None-reach_all.ensures.from c.args.kept.now
        (c.in-None.ensures.from [] (from_base c.args.propagator.now.trail (all_in c.args.clauses.now) c.requires.base.base))).assumed;
  },
)

pub returns-in-None-reach_all-clause-back : goal.returns-in-None-reach_all-clause-back
returns-in-None-reach_all-clause-back c = leads_more c.args.propagator.now c.reach_all.new.propagator c.reach_all-in-None.new.propagator (all_in c.args.clauses.now)
    c.reach_all.ensures.back c.reach_all-in-None.ensures.back
