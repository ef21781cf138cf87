-- One more clause is taken in, or it is false.
use Rattle.std.proofs.Common.{◌≡◌, ◌∙◌, length, List, ℤ, [], refl, sym, subst, take, arith}
use Rattle.std.proofs.lemmas.List.{take_all}
use Rattle.std.proofs.lemmas.List.Elements.{All-more}
use Rattle.sat_proof.specs.Assignment.{HasNoZero}
use Rattle.sat_proof.specs.Code.{HaveRoom}
use Rattle.sat_proof.specs.Guard.{IsPropagating}
use Rattle.sat_proof.specs.Propagation.{IsGrowth}
use Rattle.sat_proof.specs.Watch.{IsLaced}
use Rattle.sat_proof.proofs.Bases.{entry, room_for}
use Rattle.sat_proof.proofs.Adding.{gathered_laced, gathered_refuted, gathered_tracing}
use Rattle.sat_proof.proofs.Walks.{tracing_again}
use Rattle.sat_proof.proofs.propagator.Propagator.gather.Goals as goal

pub returns-then-add_clause-clause-conflict : goal.returns-then-add_clause-clause-conflict
returns-then-add_clause-clause-conflict c _ = gathered_refuted c.args.query.now c.loop-n.n c.loop-n-test.true c.as_slice.result.now c.index-query-n.result c.as_slice.ensures.value c.index-query-n.is
    c.args.self.now.trail.marks.items c.loop-n.self.trail.marks.items c.loop-n.invariant.tracing.growth (c.if-add_clause.ensures.conflict refl)

pub returns-then-add_clause-clause-over : goal.returns-then-add_clause-clause-over
returns-then-add_clause-clause-over c base b over = c.add_clause.ensures.over base b (c.loop-n.invariant.tracing.over base b over)

pub loop-n-preserved : goal.loop-n-preserved
loop-n-preserved c = record {
  tracing = gathered_tracing c.args.query.now c.loop-n.n c.loop-n-test.true c.as_slice.result.now c.index-query-n.result c.as_slice.ensures.value c.index-query-n.is
      c.args.self.now.trail c.loop-n.self.trail c.add_clause.new.self.trail c.loop-n.self.watch c.add_clause.new.self.watch c.args.self.now.trail.read c.loop-n.invariant.tracing c.loop-n.invariant.laced
      c.add_clause.ensures.on c.add_clause.ensures.chained
      (room_for (length c.args.self.now.trail.marks.items) (length c.loop-n.self.trail.marks.items) c.args.query.now c.loop-n.n c.requires.query (sym c.loop-n.invariant.tracing.growth.sized) c.loop-n-test.true
      c.as_slice.result.now c.index-query-n.result c.as_slice.ensures.value c.index-query-n.is c.as_slice.ensures.no_zero)
      (c.if-add_clause.ensures.entry refl);
  laced = gathered_laced c.args.query.now c.loop-n.n c.loop-n-test.true c.as_slice.result.now c.index-query-n.result c.as_slice.ensures.value c.index-query-n.is
      c.args.self.now.trail c.loop-n.self.trail c.add_clause.new.self.trail c.loop-n.self.watch c.add_clause.new.self.watch c.args.self.now.trail.read c.loop-n.invariant.tracing c.loop-n.invariant.laced
      c.add_clause.ensures.on c.add_clause.ensures.chained
      (room_for (length c.args.self.now.trail.marks.items) (length c.loop-n.self.trail.marks.items) c.args.query.now c.loop-n.n c.requires.query (sym c.loop-n.invariant.tracing.growth.sized) c.loop-n-test.true
      c.as_slice.result.now c.index-query-n.result c.as_slice.ensures.value c.index-query-n.is c.as_slice.ensures.no_zero)
      (c.if-add_clause.ensures.entry refl);
  no_zero = All-more HasNoZero c.args.query.now c.loop-n.n [] c.loop-n-test.true c.loop-n.invariant.no_zero
      (subst HasNoZero (entry c.args.query.now c.loop-n.n c.as_slice.result.now c.index-query-n.result c.loop-n-test.true c.as_slice.ensures.value c.index-query-n.is) c.as_slice.ensures.no_zero);
  read = c.add_clause.ensures.read ∙ c.loop-n.invariant.read;
}

pub returns-clause-growth : goal.returns-clause-growth
returns-clause-growth c _ = subst (IsGrowth c.args.self.now.trail.marks.items c.loop-n.self.trail.marks.items) (take_all c.loop-n.n c.args.query.now (omega arith)) c.loop-n.invariant.tracing.growth

pub returns-clause-ready : goal.returns-clause-ready
returns-clause-ready c _ =
    let all : take c.loop-n.n c.args.query.now ≡ c.args.query.now = take_all c.loop-n.n c.args.query.now (omega arith) in
    record {
      room = subst (λ n. HaveRoom n c.args.query.now) (sym c.loop-n.invariant.tracing.growth.sized) c.requires.query;
      laced = λ on. subst (λ (cs : List (List ℤ)). IsLaced c.loop-n.self.watch cs 0 0) all (c.loop-n.invariant.laced on);
      tracing = subst (λ (cs : List (List ℤ)). IsPropagating c.loop-n.self.trail c.loop-n.self.trail c.loop-n.self.watch cs c.loop-n.self.trail.read (λ _. ⊥)) all
          (subst (λ n. IsPropagating c.loop-n.self.trail c.loop-n.self.trail c.loop-n.self.watch (take c.loop-n.n c.args.query.now) n (λ _. ⊥)) (sym c.loop-n.invariant.read)
          (tracing_again c.args.self.now.trail c.loop-n.self.trail c.loop-n.self.watch (take c.loop-n.n c.args.query.now) c.args.self.now.trail.read (λ _. ⊥) c.loop-n.invariant.tracing));
    }
