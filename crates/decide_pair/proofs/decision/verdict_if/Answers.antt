-- The empty filling gives another bit.
use Rattle.decide_pair.proofs.TriedNumbers.{other_base}
use Rattle.decide_pair.proofs.decision.verdict_if.Goals as goal

pub returns-else-base-bit-clause-none : goal.returns-else-base-bit-clause-none
returns-else-base-bit-clause-none c =
    other_base c.args.wave.now c.args.cone.now.nodes c.args.bit c.base.result c.requires.cone c.base.ensures c.if-base-bit.false
