-- A pass that finds nothing leaves each clause quiet, and one that finds a literal leaves fewer unmarked.
use Rattle.std.proofs.Common.{refl, ◌≡◌}
use Rattle.sat_proof.specs.Premises.{all_in}
use Rattle.sat_proof.proofs.Runs.{growth_more, running_quiet}
use Rattle.sat_proof.proofs.Trails.{over_read}
use Rattle.sat_proof.proofs.sweep.sweep.Goals as goal

pub returns-then-pass_once-clause-conflict : goal.returns-then-pass_once-clause-conflict
returns-then-pass_once-clause-conflict c _ f quiet within = c.if-pass_once.ensures.conflict refl f quiet (c.rounds.invariant.growth.within f quiet within)

pub returns-then-pass_once-clause-over : goal.returns-then-pass_once-clause-over
returns-then-pass_once-clause-over c base b over = c.pass_once.ensures.over base b (c.rounds.invariant.over base b over)

pub returns-then-trail-len-clause-growth : goal.returns-then-trail-len-clause-growth
returns-then-trail-len-clause-growth c _ = growth_more c.args.trail.now.marks.items c.rounds.trail.marks.items c.pass_once.new.trail.marks.items
    (all_in c.args.clauses.now) c.rounds.invariant.growth (c.if-pass_once.ensures.running refl).growth

pub returns-then-trail-len-clause-quiet : goal.returns-then-trail-len-clause-quiet
returns-then-trail-len-clause-quiet c _ =
    let e : c.pass_once.new.trail.len ≡ c.rounds.trail.len = c.if-trail-len.true in
    running_quiet c.rounds.trail c.pass_once.new.trail (all_in c.args.clauses.now) c.rounds.trail.len (c.if-pass_once.ensures.running refl) e

pub returns-then-trail-len-clause-over : goal.returns-then-trail-len-clause-over
returns-then-trail-len-clause-over c base b over = over_read base b c.pass_once.new.trail _ refl refl refl
    (c.pass_once.ensures.over base b (c.rounds.invariant.over base b over))

pub rounds-preserved : goal.rounds-preserved
rounds-preserved c = record {
  growth = growth_more c.args.trail.now.marks.items c.rounds.trail.marks.items c.pass_once.new.trail.marks.items
      (all_in c.args.clauses.now) c.rounds.invariant.growth (c.if-pass_once.ensures.running refl).growth;
  over = λ base b over. c.pass_once.ensures.over base b (c.rounds.invariant.over base b over);
}
