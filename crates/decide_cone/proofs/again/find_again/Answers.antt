-- What tables show has the body.
use Rattle.decide_cone.proofs.again.find_again.Goals as goal

pub returns-clause-holds : goal.returns-clause-holds
returns-clause-holds c = λ told. c.has_body-2.ensures c.args.wave.now c.in_ok-shared.ensures.shown told
