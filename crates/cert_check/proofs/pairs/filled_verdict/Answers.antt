-- The verdict of the fillings, or the first that gives another bit.
use Rattle.law_model.specs.declared.line.Body.TheVariants.{Pair}
use Rattle.cert_check.proofs.Refusing.{one_refuses, verdict_made, zero_refuses}
use Rattle.cert_check.proofs.pairs.filled_verdict.Goals as goal

pub returns-in-Ok-clause-verdict : goal.returns-in-Ok-clause-verdict
returns-in-Ok-clause-verdict c =
    verdict_made c.args.wave.now c.in-Ok.verdict (Pair c.args.zero c.args.one) c.in-Ok.ensures.holds c.in-Ok.ensures.body tt

pub returns-in-Err-NotZero-clause-none : goal.returns-in-Err-NotZero-clause-none
returns-in-Err-NotZero-clause-none c =
    one_refuses c.args.wave.now c.args.zero c.args.one (rw c.in-Err-NotZero.field-0-is at c.in-Err-NotZero.ensures.refusal)

pub returns-in-Err-NotOne-clause-none : goal.returns-in-Err-NotOne-clause-none
returns-in-Err-NotOne-clause-none c =
    let refusal = rw c.in-Err-NotOne.field-0-is at c.in-Err-NotOne.ensures.refusal in
    zero_refuses c.args.wave.now c.args.zero c.args.one refusal.1
