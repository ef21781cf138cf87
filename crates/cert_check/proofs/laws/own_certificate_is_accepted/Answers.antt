-- The law.
use Rattle.cert_check.proofs.Fitted.{own_accepted}
use Rattle.cert_check.proofs.laws.own_certificate_is_accepted.Goals as goal

pub returns : goal.returns
returns c = own_accepted
