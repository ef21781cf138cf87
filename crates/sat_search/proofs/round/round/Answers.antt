-- The decisions follow where they conflict, and are a model where they do not.
use Rattle.std.proofs.Common.{◌≡◌, ◌∙◌, refl, sym, subst, ap, List, Bool, length}
use Rattle.std.specs.Prelude.{ℤ}
use Rattle.std.specs.List.{All}
use Rattle.std.proofs.lemmas.Option.{IfSome_then}
use Rattle.sat_proof.specs.Premises.{all_in}
use Rattle.sat_proof.specs.Closed.{IsQuiet, NoneResists}
use Rattle.sat_proof.specs.Code.{HasRoom, IsConsistent, is_false}
use Rattle.sat_proof.specs.Trail.{held, IsSameTrail}
use Rattle.sat_proof.proofs.Bases.{at_base, kept_more}
use Rattle.sat_proof.proofs.Trails.{kept_by_undo, low_to_undo, over_none, over_sized}
use Rattle.sat_search.specs.Decide.{IsConflict}
use Rattle.sat_search.specs.Learn.{IsCandidate}
use Rattle.sat_search.proofs.round.round.Goals as goal

pub returns-then-not-branch-clause-size : goal.returns-then-not-branch-clause-size
returns-then-not-branch-clause-size c = over_sized c.args.propagator.now.trail c.descend.new.propagator.trail c.in_ok-descend.ensures.back.over

pub tested-hint-requires : goal.tested-hint-requires
tested-hint-requires c = ap length c.deref.ensures.value ∙ over_sized c.args.propagator.now.trail c.descend.new.propagator.trail c.in_ok-descend.ensures.back.over ∙ c.requires.codes

pub undo-requires : goal.undo-requires
undo-requires c = low_to_undo c.args.propagator.now.trail c.descend.new.propagator.trail c.in_ok-descend.ensures.back.over

pub learn-requires-clause-base : goal.learn-requires-clause-base
learn-requires-clause-base c =
    let kept : IsSameTrail c.args.propagator.now.trail c.undo.new.self = kept_by_undo c.args.propagator.now.trail c.descend.new.propagator.trail c.undo.new.self
    c.in_ok-descend.ensures.back.over c.undo.ensures.marks c.undo.ensures.len (c.undo.ensures.read ∙ sym c.requires.base.base.read) in
    at_base c.args.propagator.now c.descend.new.propagator _ (all_in c.args.clauses.now) c.requires.base c.in_ok-descend.ensures.back kept refl

pub learn-requires-clause-decisions : goal.learn-requires-clause-decisions
learn-requires-clause-decisions c =
    let marks : c.undo.new.self.marks.items ≡ c.args.propagator.now.trail.marks.items =
    c.undo.ensures.marks c.args.propagator.now.trail.marks.items (c.in_ok-descend.ensures.back.over c.args.propagator.now.trail.marks.items c.args.propagator.now.trail.len (over_none c.args.propagator.now.trail)) in
    let conflict : IsConflict c.descend.new.propagator.trail (all_in c.args.clauses.now) c.descend.new.decisions.items = c.in_ok-descend.ensures.conflict c.if-not-branch.false in
    record {
      room = subst (λ (xs : List ℤ). All (HasRoom (length c.undo.new.self.marks.items)) xs) (sym c.deref-2.ensures.value)
          (subst (λ n. All (HasRoom n) c.descend.new.decisions.items) (sym (ap length marks)) c.in_ok-descend.ensures.room);
      candidate = (
        held c.descend.new.propagator.trail,
        subst (λ (xs : List ℤ). IsCandidate (all_in c.args.clauses.now) xs (held c.descend.new.propagator.trail)) (sym c.deref-2.ensures.value) conflict.candidate,
      );
    }

pub learn-requires-clause-follows : goal.learn-requires-clause-follows
learn-requires-clause-follows c = subst (λ (xs : List ℤ). NoneResists (all_in c.args.clauses.now) xs) (sym c.deref-2.ensures.value)
    (c.in_ok-descend.ensures.conflict c.if-not-branch.false).follows

pub learn-requires-clause-hint : goal.learn-requires-clause-hint
learn-requires-clause-hint c =
    let marks : c.undo.new.self.marks.items ≡ c.args.propagator.now.trail.marks.items =
    c.undo.ensures.marks c.args.propagator.now.trail.marks.items (c.in_ok-descend.ensures.back.over c.args.propagator.now.trail.marks.items c.args.propagator.now.trail.len (over_none c.args.propagator.now.trail)) in
    let conflict : IsConflict c.descend.new.propagator.trail (all_in c.args.clauses.now) c.descend.new.decisions.items = c.in_ok-descend.ensures.conflict c.if-not-branch.false in
    let size : length c.deref.result.now ≡ length c.undo.new.self.marks.items =
    ap length c.deref.ensures.value ∙ over_sized c.args.propagator.now.trail c.descend.new.propagator.trail c.in_ok-descend.ensures.back.over ∙ sym (ap length marks) in
    IfSome_then c.tested-hint.result c.tested-hint.ensures (λ hint h. record {
      room = subst (λ n. All (HasRoom n) hint.now) size h.room;
      candidate = (
        is_false c.deref.result.now,
        record {
          filled = h.filled;
          asserting = record {
            quiet = subst (λ (ms : List Bool). All (IsQuiet (is_false ms)) (all_in c.args.clauses.now)) (sym c.deref.ensures.value) conflict.candidate.asserting.quiet;
            apart = subst IsConsistent (sym c.deref.ensures.value) conflict.candidate.asserting.apart;
            not_true = h.not_true;
            rest_false = h.rest;
          };
        },
      );
    })

pub returns-clause-size : goal.returns-clause-size
returns-clause-size c =
    let marks : c.undo.new.self.marks.items ≡ c.args.propagator.now.trail.marks.items =
    c.undo.ensures.marks c.args.propagator.now.trail.marks.items (c.in_ok-descend.ensures.back.over c.args.propagator.now.trail.marks.items c.args.propagator.now.trail.len (over_none c.args.propagator.now.trail)) in
    ap length c.in_ok-literals.ensures.back.kept.marks ∙ ap length marks

pub returns-clause-room : goal.returns-clause-room
returns-clause-room c =
    let marks : c.undo.new.self.marks.items ≡ c.args.propagator.now.trail.marks.items =
    c.undo.ensures.marks c.args.propagator.now.trail.marks.items (c.in_ok-descend.ensures.back.over c.args.propagator.now.trail.marks.items c.args.propagator.now.trail.len (over_none c.args.propagator.now.trail)) in
    subst (λ n. All (HasRoom n) c.in_ok-literals.literals.items) (ap length marks) c.in_ok-literals.ensures.room

pub returns-clause-back : goal.returns-clause-back
returns-clause-back c =
    let kept : IsSameTrail c.args.propagator.now.trail c.undo.new.self = kept_by_undo c.args.propagator.now.trail c.descend.new.propagator.trail c.undo.new.self
    c.in_ok-descend.ensures.back.over c.undo.ensures.marks c.undo.ensures.len (c.undo.ensures.read ∙ sym c.requires.base.base.read) in
    record { base = c.in_ok-literals.ensures.back.base; kept = kept_more c.args.propagator.now.trail c.undo.new.self c.learn.new.propagator.trail kept c.in_ok-literals.ensures.back.kept }
