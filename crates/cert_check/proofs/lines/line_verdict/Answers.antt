-- The body holds, and has no log.
use Rattle.cert_check.proofs.Refusing.{bare_fits, verdict_made}
use Rattle.wave_proved.specs.Token.{HoldsBare}
use Rattle.cert_check.proofs.lines.line_verdict.Goals as goal

pub from_law-requires-clause-law : goal.from_law-requires-clause-law
from_law-requires-clause-law c =
    let bare : HoldsBare c.args.wave.now c.args.body = rw c.in-None.is at c.in_ok-cone.ensures.told in
    bare.holds

pub returns-in-None-clause-verdict : goal.returns-in-None-clause-verdict
returns-in-None-clause-verdict c =
    verdict_made c.args.wave.now c.from_law.result c.args.body c.from_law.ensures.holds c.from_law.ensures.body
    (bare_fits c.args.wave.now c.args.body (rw c.in-None.is at c.in_ok-cone.ensures.told))
