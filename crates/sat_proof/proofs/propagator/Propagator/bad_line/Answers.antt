-- The first clause that does not follow gives the line, or the end does.
use Rattle.std.proofs.Common.{refl}
use Rattle.std.proofs.lemmas.Bool.{iff_false}
use Rattle.sat_proof.specs.Log.{inside, ending}
use Rattle.sat_proof.proofs.propagator.Propagator.bad_line.Goals as goal

pub returns-in-Some-clause-some : goal.returns-in-Some-clause-some
returns-in-Some-clause-some c = inside c.in-Some.k refl c.in-Some.ensures.some.below c.in-Some.ensures.some.earlier c.in-Some.ensures.some.here

pub returns-else-ends_empty-clause-some : goal.returns-else-ends_empty-clause-some
returns-else-ends_empty-clause-some c = ending refl c.in_default.ensures.none (λ e. iff_false c.ends_empty.ensures c.if-ends_empty.false e)
