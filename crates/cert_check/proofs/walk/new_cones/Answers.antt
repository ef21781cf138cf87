-- What stands in the box is what was put there.
use Rattle.std.proofs.Common.{sym, subst}
use Rattle.cert_turns.specs.OfCone.{AreRightOf}
use Rattle.cert_check.proofs.walk.new_cones.Goals as goal

pub returns : goal.returns
returns c k = subst (AreRightOf k) (sym c.in_ok-new.ensures.ok) (c.in_ok-cones.ensures k)
