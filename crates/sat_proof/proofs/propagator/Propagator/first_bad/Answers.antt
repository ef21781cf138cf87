-- One more clause that follows, and all of them at the end.
use Rattle.std.proofs.Common.{below_more, ◌<◌, ◌∙◌, arith, refl}
use Rattle.sat_proof.proofs.propagator.Propagator.first_bad.Goals as goal

pub loop-k-preserved : goal.loop-k-preserved
loop-k-preserved c = record {
  ready = c.advance-refuted.ensures.ready;
  size = c.advance-refuted.ensures.size ∙ c.does_follow.ensures.size ∙ c.loop-k.invariant.size;
  so_far = below_more _ _ c.loop-k.invariant.so_far (c.if-not-does_follow.ensures.yes refl);
}

pub returns-clause-none : goal.returns-clause-none
returns-clause-none c k lt = let h : k < c.loop-k.k = omega arith in c.loop-k.invariant.so_far k h
