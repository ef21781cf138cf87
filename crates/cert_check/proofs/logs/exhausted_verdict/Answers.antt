-- There are too few sources.
use Rattle.cert_check.proofs.Refusing.{few_refuse}
use Rattle.cert_check.proofs.logs.exhausted_verdict.Goals as goal

pub returns-then-has_few_sources-clause-none : goal.returns-then-has_few_sources-clause-none
returns-then-has_few_sources-clause-none c =
    few_refuse c.args.wave.now c.args.cone.now.nodes c.args.log c.requires
    (c.has_few_sources.ensures.few c.if-has_few_sources.true)
