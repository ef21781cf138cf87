-- The query denies another bit.
use Rattle.std.proofs.Common.{◌∙◌}
use Rattle.cert_check.proofs.Going.{never}
use Rattle.cert_check.proofs.Refusing.{base_refuses}
use Rattle.cert_check.proofs.logs.refuted_verdict.Goals as goal

pub returns-then-not-are_same-clause-none : goal.returns-then-not-are_same-clause-none
returns-then-not-are_same-clause-none c =
    base_refuses c.args.wave.now c.args.cone.now.nodes c.args.bit c.args.log c.requires
    (λ is. never c.are_same.result (c.are_same.ensures.1 (c.base.ensures ∙ is)) c.if-not-are_same.true)
