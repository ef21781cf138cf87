-- A decision with what follows from it, or the conflict that comes.
use Rattle.std.proofs.Common.{◌≡◌, refl, sym, subst, List, Bool}
use Rattle.sat_proof.specs.Premises.{all_in}
use Rattle.sat_proof.specs.Closed.{NoneResists}
use Rattle.sat_proof.specs.Code.{is_false}
use Rattle.sat_proof.proofs.Trails.{low_to_undo, over_none}
use Rattle.sat_search.specs.Learn.{IsCandidate, last_of, front_of}
use Rattle.sat_search.specs.Reach.{IsFrom}
use Rattle.sat_search.proofs.Deciding.{front_last, over_back, candidate_from, longer_if_new}
use Rattle.sat_search.proofs.Reaching.{last_false}
use Rattle.sat_search.proofs.decide.attempt.Goals as goal

pub undo-requires : goal.undo-requires
undo-requires c = low_to_undo c.args.propagator.now.trail c.reach.new.propagator.trail c.reach.ensures.back.over

pub returns-then-reach-clause-conflict : goal.returns-then-reach-clause-conflict
returns-then-reach-clause-conflict c _ =
    let marks : c.undo.new.self.marks.items ≡ c.args.propagator.now.trail.marks.items =
    c.undo.ensures.marks c.args.propagator.now.trail.marks.items (c.reach.ensures.back.over c.args.propagator.now.trail.marks.items c.args.propagator.now.trail.len (over_none c.args.propagator.now.trail)) in
    record {
      follows = subst (NoneResists (all_in c.args.clauses.now)) (front_last c.args.decisions.now c.requires.filled)
          (c.if-reach.ensures.conflict refl _ c.requires.from);
      candidate = subst (λ (ms : List Bool). IsCandidate (all_in c.args.clauses.now) c.args.decisions.now (is_false ms)) (sym marks)
          (candidate_from c.args.propagator.now (all_in c.args.clauses.now) c.args.decisions.now c.requires.settled c.requires.from c.requires.filled c.requires.not_true);
    }

pub returns-then-reach-clause-back : goal.returns-then-reach-clause-back
returns-then-reach-clause-back c =
    let marks : c.undo.new.self.marks.items ≡ c.args.propagator.now.trail.marks.items =
    c.undo.ensures.marks c.args.propagator.now.trail.marks.items (c.reach.ensures.back.over c.args.propagator.now.trail.marks.items c.args.propagator.now.trail.len (over_none c.args.propagator.now.trail)) in
    record {
      over = λ base b over. over_back base b c.args.propagator.now.trail c.reach.new.propagator.trail c.undo.new.self c.reach.ensures.back.over over marks c.undo.ensures.codes c.undo.ensures.len;
      laced = c.reach.ensures.back.laced;
      stays = c.reach.ensures.back.stays;
      on = c.reach.ensures.back.on;
    }

pub returns-clause-from : goal.returns-clause-from
returns-clause-from c e = subst (IsFrom c.reach.new.propagator.trail.marks.items (all_in c.args.clauses.now)) (front_last c.args.decisions.now c.requires.filled)
    (c.if-reach.ensures.from refl _ c.requires.from)

pub returns-clause-longer : goal.returns-clause-longer
returns-clause-longer c e =
    let from : IsFrom c.reach.new.propagator.trail.marks.items (all_in c.args.clauses.now) _ = c.if-reach.ensures.from refl _ c.requires.from in
    longer_if_new c.args.propagator.now.trail c.reach.new.propagator.trail (last_of c.args.decisions.now) c.reach.ensures.back.over c.requires.not_false
    (last_false (is_false c.reach.new.propagator.trail.marks.items) (front_of c.args.decisions.now) (last_of c.args.decisions.now) from.assumed)
