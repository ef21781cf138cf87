-- There are too many sources, or the bit is checked.
use Rattle.law_model.specs.declared.line.Body.TheVariants.{Enumerated}
use Rattle.cert_check.proofs.Refusing.{many_refuse, verdict_made}
use Rattle.cert_check.proofs.bodies.enumerated_verdict.Goals as goal

pub returns-then-not-has_few_sources-clause-none : goal.returns-then-not-has_few_sources-clause-none
returns-then-not-has_few_sources-clause-none c =
    many_refuse c.args.wave.now c.args.cone.now.nodes c.args.bit c.requires
    (c.has_few_sources.ensures.many c.if-not-has_few_sources.true)

pub returns-in-Some-clause-verdict : goal.returns-in-Some-clause-verdict
returns-in-Some-clause-verdict c =
    verdict_made c.args.wave.now c.in-Some.verdict (Enumerated c.args.bit)
    (rw c.in-Some.is at c.in_ok-verdict.ensures.holds) (rw c.in-Some.is at c.in_ok-verdict.ensures.body) tt
