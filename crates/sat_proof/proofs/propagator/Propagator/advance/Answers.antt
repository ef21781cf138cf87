-- With one more clause taken in and propagated the trail is ready for the next line.
use Rattle.std.proofs.Common.{◌+◌, ◌∙◌, length, refl}
use Rattle.sat_proof.specs.Log.{before}
use Rattle.sat_proof.proofs.Bases.{ready_contrary, ready_from, contrary_next, next_contrary, next_forced, room_before, room_for}
use Rattle.sat_proof.proofs.Adding.{next_laced, next_tracing}
use Rattle.sat_proof.proofs.Walks.{tracing_again}
use Rattle.sat_proof.proofs.Trails.{over_sized}
use Rattle.sat_proof.proofs.propagator.Propagator.advance.Goals as goal

pub returns-then-refuted-clause-ready : goal.returns-then-refuted-clause-ready
returns-then-refuted-clause-ready c = ready_contrary c.args.self.now (before c.args.query.now c.args.log.now (c.args.k + 1))
    (contrary_next c.args.query.now c.args.log.now c.args.k c.requires.below (c.requires.ready.contrary c.if-refuted.true))

pub returns-then-add_clause-clause-ready : goal.returns-then-add_clause-clause-ready
returns-then-add_clause-clause-ready c = ready_contrary c.add_clause.new.self (before c.args.query.now c.args.log.now (c.args.k + 1))
    (next_contrary c.args.query.now c.args.log.now c.args.k c.requires.below c.as_slice.result.now c.index-log-k.result c.as_slice.ensures.value c.index-log-k.is
    c.args.self.now.trail (c.requires.ready.base c.if-refuted.false).base (c.if-add_clause.ensures.conflict refl))

pub returns-then-add_clause-clause-size : goal.returns-then-add_clause-clause-size
returns-then-add_clause-clause-size c = over_sized c.args.self.now.trail c.add_clause.new.self.trail c.add_clause.ensures.over

pub propagate-requires : goal.propagate-requires
propagate-requires c = record {
  room = room_before (length c.args.self.now.trail.marks.items) (length c.add_clause.new.self.trail.marks.items) c.args.query.now c.args.log.now
      (c.args.k + 1) (over_sized c.args.self.now.trail c.add_clause.new.self.trail c.add_clause.ensures.over) c.requires.query c.requires.log;
  laced = next_laced c.args.query.now c.args.log.now c.args.k c.requires.below c.as_slice.result.now c.index-log-k.result c.as_slice.ensures.value c.index-log-k.is
      c.args.self.now.trail c.add_clause.new.self.trail c.args.self.now.watch c.add_clause.new.self.watch (c.requires.ready.base c.if-refuted.false).base (c.requires.ready.base c.if-refuted.false).watches
      c.add_clause.ensures.on c.add_clause.ensures.chained
      (room_for (length c.args.self.now.trail.marks.items) (length c.args.self.now.trail.marks.items) c.args.log.now c.args.k c.requires.log refl c.requires.below
      c.as_slice.result.now c.index-log-k.result c.as_slice.ensures.value c.index-log-k.is c.as_slice.ensures.no_zero)
      (c.if-add_clause.ensures.entry refl);
  tracing = tracing_again c.args.self.now.trail c.add_clause.new.self.trail c.add_clause.new.self.watch (before c.args.query.now c.args.log.now (c.args.k + 1)) c.add_clause.new.self.trail.read (λ _. ⊥)
      (next_tracing c.args.query.now c.args.log.now c.args.k c.requires.below c.as_slice.result.now c.index-log-k.result c.as_slice.ensures.value c.index-log-k.is
      c.args.self.now.trail c.add_clause.new.self.trail c.args.self.now.watch c.add_clause.new.self.watch (c.requires.ready.base c.if-refuted.false).base (c.requires.ready.base c.if-refuted.false).watches
      c.add_clause.ensures.on c.add_clause.ensures.chained
      (room_for (length c.args.self.now.trail.marks.items) (length c.args.self.now.trail.marks.items) c.args.log.now c.args.k c.requires.log refl c.requires.below
      c.as_slice.result.now c.index-log-k.result c.as_slice.ensures.value c.index-log-k.is c.as_slice.ensures.no_zero)
      (c.if-add_clause.ensures.entry refl) c.add_clause.ensures.read);
}

pub returns-clause-ready : goal.returns-clause-ready
returns-clause-ready c = ready_from c.add_clause.new.self c.propagate.new.self c.propagate.result (before c.args.query.now c.args.log.now (c.args.k + 1))
    (room_before (length c.args.self.now.trail.marks.items) (length c.add_clause.new.self.trail.marks.items) c.args.query.now c.args.log.now
    (c.args.k + 1) (over_sized c.args.self.now.trail c.add_clause.new.self.trail c.add_clause.ensures.over) c.requires.query c.requires.log)
    (next_forced c.args.query.now c.args.log.now c.args.k c.requires.below c.as_slice.result.now c.index-log-k.result c.as_slice.ensures.value c.index-log-k.is
    c.args.self.now.trail (c.requires.ready.base c.if-refuted.false).base c.add_clause.new.self.trail
    (next_tracing c.args.query.now c.args.log.now c.args.k c.requires.below c.as_slice.result.now c.index-log-k.result c.as_slice.ensures.value c.index-log-k.is
    c.args.self.now.trail c.add_clause.new.self.trail c.args.self.now.watch c.add_clause.new.self.watch (c.requires.ready.base c.if-refuted.false).base (c.requires.ready.base c.if-refuted.false).watches
    c.add_clause.ensures.on c.add_clause.ensures.chained
    (room_for (length c.args.self.now.trail.marks.items) (length c.args.self.now.trail.marks.items) c.args.log.now c.args.k c.requires.log refl c.requires.below
    c.as_slice.result.now c.index-log-k.result c.as_slice.ensures.value c.index-log-k.is c.as_slice.ensures.no_zero)
    (c.if-add_clause.ensures.entry refl) c.add_clause.ensures.read).growth)
    c.propagate.ensures.conflict c.propagate.ensures.done c.propagate.ensures.back

pub returns-clause-size : goal.returns-clause-size
returns-clause-size c = over_sized c.add_clause.new.self.trail c.propagate.new.self.trail c.propagate.ensures.back.over ∙ over_sized c.args.self.now.trail c.add_clause.new.self.trail c.add_clause.ensures.over
