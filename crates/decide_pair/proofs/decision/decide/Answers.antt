-- What is found of all numbers decides the place.
use Rattle.std.proofs.Common.{subst, sym}
use Rattle.law_model.specs.declared.line.Body.TheVariants.{Enumerated}
use Rattle.wave_proved.specs.Token.{HoldsNext}
use Rattle.decide_pair.specs.Decision.{one_bit}
use Rattle.decide_pair.proofs.TriedNumbers.{all_found}
use Rattle.decide_pair.proofs.decision.decide.Goals as goal

pub from_law-requires-clause-law : goal.from_law-requires-clause-law
from_law-requires-clause-law c =
    subst (λ bit. HoldsNext c.args.wave.now (Enumerated bit)) (sym c.base.ensures)
    (all_found c.args.wave.now c.args.cone.now.nodes c.requires.cone c.requires.few
    (rw c.in-None.is at c.in_ok-number.ensures))

pub returns-in-None : goal.returns-in-None
returns-in-None c = one_bit c.base.result c.from_law.ensures.holds c.from_law.ensures.body
