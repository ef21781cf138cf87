-- The law.
use Rattle.cert_check.proofs.OwnText.{own_text_stands}
use Rattle.cert_check.proofs.laws.own_text_reads_back.Goals as goal

pub returns : goal.returns
returns c = own_text_stands
