-- The law.
use Rattle.cert_check.proofs.Faultless.{accepted_unrefused}
use Rattle.cert_check.proofs.laws.accepted_is_not_refused.Goals as goal

pub returns : goal.returns
returns c = accepted_unrefused
