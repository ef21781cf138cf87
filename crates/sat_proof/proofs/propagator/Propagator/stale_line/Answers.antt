-- The line of the first clause that is not fresh.
use Rattle.std.proofs.Common.{refl}
use Rattle.sat_proof.specs.Log.{inside}
use Rattle.sat_proof.proofs.propagator.Propagator.stale_line.Goals as goal

pub returns-in-Some-clause-some : goal.returns-in-Some-clause-some
returns-in-Some-clause-some c = inside c.in-Some.k refl c.in-Some.ensures.some.below c.in-Some.ensures.some.earlier c.in-Some.ensures.some.here
