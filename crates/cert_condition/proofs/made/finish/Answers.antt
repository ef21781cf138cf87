use Rattle.cert_condition.proofs.MadeSteps.{step_more}
use Rattle.cert_condition.proofs.made.finish.Goals as goal

pub turns-preserved : goal.turns-preserved
turns-preserved c = step_more c.args.condition c.turns.now c.in_ok-now.now c.turns.invariant c.in_ok-now.ensures
