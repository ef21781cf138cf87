-- One more decision, or none is left to make.
use Rattle.std.proofs.Common.{◌∙◌, ap, refl, sym, subst, List, Bool, length, arith}
use Rattle.std.specs.Prelude.{ℤ}
use Rattle.std.specs.List.{All}
use Rattle.std.proofs.lemmas.List.Elements.{All-nil}
use Rattle.sat_proof.specs.Premises.{all_in}
use Rattle.sat_proof.specs.Code.{HasRoom}
use Rattle.sat_proof.proofs.Backs.{leads_more, leads_none, marks_stay}
use Rattle.sat_proof.proofs.Trails.{over_sized}
use Rattle.sat_search.specs.Decide.{AreValued}
use Rattle.sat_search.specs.Reach.{IsFrom}
use Rattle.sat_search.proofs.Deciding.{literal_room, room_pushed, valued_kept}
use Rattle.sat_search.proofs.Reaching.{settled_base, from_base}
use Rattle.sat_search.proofs.decide.descend.Goals as goal

pub levels-init : goal.levels-init
levels-init c = record {
  low = omega arith;
  valued = λ n lt. absurd (omega arith);
  settled = settled_base c.args.propagator.now (all_in c.args.clauses.now) c.requires.base;
  from = subst (IsFrom c.args.propagator.now.trail.marks.items (all_in c.args.clauses.now)) (sym c.requires.none) (from_base c.args.propagator.now.trail (all_in c.args.clauses.now) c.requires.base.base);
  room = subst (λ (xs : List ℤ). All (HasRoom (length c.args.propagator.now.trail.marks.items)) xs) (sym c.requires.none) (All-nil (HasRoom (length c.args.propagator.now.trail.marks.items)));
  back = leads_none c.args.propagator.now (all_in c.args.clauses.now) (λ on. (c.requires.base.watches on).laced);
}

pub choose-requires-clause-codes : goal.choose-requires-clause-codes
choose-requires-clause-codes c = ap length c.deref.ensures.value ∙ over_sized c.args.propagator.now.trail c.levels.propagator.trail c.levels.invariant.back.over ∙ c.requires.codes

pub levels-smaller : goal.levels-smaller
levels-smaller c = omega (
  arith,
  c.if-attempt.ensures.longer refl,
  c.attempt.new.propagator.trail.in_step.counted,
  over_sized c.levels.propagator.trail c.attempt.new.propagator.trail c.attempt.ensures.back.over,
  over_sized c.args.propagator.now.trail c.levels.propagator.trail c.levels.invariant.back.over,
)

pub attempt-requires-clause-room : goal.attempt-requires-clause-room
attempt-requires-clause-room c =
    let (l, is, pushed) = c.in_ok-push_decision-in-Some.ensures in
    subst (λ n. All (HasRoom n) c.deref-in-Some.result.now) (sym (over_sized c.args.propagator.now.trail c.levels.propagator.trail c.levels.invariant.back.over))
    (room_pushed (length c.args.propagator.now.trail.marks.items) c.levels.decisions.items c.deref-in-Some.result.now l (c.deref-in-Some.ensures.value ∙ pushed) c.levels.invariant.room
    (literal_room (length c.args.propagator.now.trail.marks.items) c.args.vars c.in-Some.n l is c.in-Some.ensures.below c.requires.codes))

pub returns-then-attempt-clause-room : goal.returns-then-attempt-clause-room
returns-then-attempt-clause-room c =
    let (l, is, pushed) = c.in_ok-push_decision-in-Some.ensures in
    room_pushed (length c.args.propagator.now.trail.marks.items) c.levels.decisions.items c.push_decision.new.decisions.items l pushed c.levels.invariant.room
    (literal_room (length c.args.propagator.now.trail.marks.items) c.args.vars c.in-Some.n l is c.in-Some.ensures.below c.requires.codes)

pub returns-then-attempt-clause-back : goal.returns-then-attempt-clause-back
returns-then-attempt-clause-back c = leads_more c.args.propagator.now c.levels.propagator c.attempt.new.propagator (all_in c.args.clauses.now) c.levels.invariant.back c.attempt.ensures.back

pub levels-preserved : goal.levels-preserved
levels-preserved c =
    let (l, is, pushed) = c.in_ok-push_decision-in-Some.ensures in
    let from : IsFrom c.attempt.new.propagator.trail.marks.items (all_in c.args.clauses.now) c.push_decision.new.decisions.items =
    subst (IsFrom c.attempt.new.propagator.trail.marks.items (all_in c.args.clauses.now)) c.deref-in-Some.ensures.value (c.if-attempt.ensures.from refl) in
    record {
      low = c.in-Some.ensures.low;
      valued = valued_kept c.levels.propagator.trail.marks.items c.attempt.new.propagator.trail.marks.items c.choose.new.cursor
          (marks_stay c.levels.propagator.trail c.attempt.new.propagator.trail c.attempt.ensures.back.over)
          (subst (λ (ms : List Bool). AreValued ms c.choose.new.cursor) c.deref.ensures.value c.in-Some.ensures.valued);
      settled = c.if-attempt.ensures.settled refl;
      from = from;
      room = room_pushed (length c.args.propagator.now.trail.marks.items) c.levels.decisions.items c.push_decision.new.decisions.items l pushed c.levels.invariant.room
          (literal_room (length c.args.propagator.now.trail.marks.items) c.args.vars c.in-Some.n l is c.in-Some.ensures.below c.requires.codes);
      back = leads_more c.args.propagator.now c.levels.propagator c.attempt.new.propagator (all_in c.args.clauses.now) c.levels.invariant.back c.attempt.ensures.back;
    }
