-- All numbers agree, or one doesn't.
use Rattle.decide_pair.proofs.TriedNumbers.{all_found, other_found}
use Rattle.decide_pair.proofs.decision.check_bit.Goals as goal

pub verdict_if-requires-clause-law : goal.verdict_if-requires-clause-law
verdict_if-requires-clause-law c =
    all_found c.args.wave.now c.args.cone.now.nodes c.requires.cone c.requires.few
    (rw c.in-None.is at c.in_ok-least_other.ensures)

pub returns-in-Some-clause-none : goal.returns-in-Some-clause-none
returns-in-Some-clause-none c =
    other_found c.args.wave.now c.args.cone.now.nodes c.args.bit c.in-Some.field-0 c.requires.cone
    (rw c.in-Some.is at c.in_ok-least_other.ensures)
