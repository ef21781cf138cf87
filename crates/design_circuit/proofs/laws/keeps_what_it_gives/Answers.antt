-- What a driver keeps, by what it gives.
use Rattle.design_circuit.proofs.DrivenLemmas.{kept_driven}
use Rattle.design_circuit.proofs.laws.keeps_what_it_gives.Goals as goal

pub returns : goal.returns
returns c = kept_driven
