-- The law.
use Rattle.cert_check.proofs.OneText.{one_text}
use Rattle.cert_check.proofs.laws.texts_stand_for_one.Goals as goal

pub returns : goal.returns
returns c = one_text
