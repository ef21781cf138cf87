-- One more clause that is fresh; over clauses that conflict none is.
use Rattle.std.proofs.Common.{below_more, refl, ◌∙◌, ap, length}
use Rattle.sat_proof.specs.Log.{before, clause_at}
use Rattle.sat_proof.proofs.News.{contrary_not_fresh}
use Rattle.sat_proof.proofs.propagator.Propagator.first_stale.Goals as goal

pub returns-then-refuted-clause-some : goal.returns-then-refuted-clause-some
returns-then-refuted-clause-some c = record {
  below = c.loop-k-test.true;
  earlier = c.loop-k.invariant.so_far;
  here = λ fresh. contrary_not_fresh (before c.args.query.now c.args.log.now c.loop-k.k) (clause_at c.args.log.now c.loop-k.k)
      (c.loop-k.invariant.ready.contrary c.if-refuted.true) fresh;
}

pub loop-k-preserved : goal.loop-k-preserved
loop-k-preserved c = record {
  ready = c.advance-refuted.ensures.ready;
  size = c.advance-refuted.ensures.size ∙ ap length c.is_fresh_at.ensures.back.kept.marks ∙ c.loop-k.invariant.size;
  earlier = c.list.ensures.earlier;
  sizes = c.list.ensures.size ∙ c.is_fresh_at.ensures.sizes ∙ c.loop-k.invariant.sizes;
  so_far = below_more _ _ c.loop-k.invariant.so_far (c.if-not-is_fresh_at.ensures.yes refl);
}
