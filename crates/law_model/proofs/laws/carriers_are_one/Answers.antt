-- One chosen bit alone tells two argument places apart.
use Rattle.law_model.proofs.Carriers.{carrier_law}
use Rattle.law_model.proofs.laws.carriers_are_one.Goals as goal

pub returns : goal.returns
returns c = carrier_law
