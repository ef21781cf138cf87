-- The law stands in its lemma.
use Rattle.law_waveforms.proofs.RootBits.{root_law}
use Rattle.law_waveforms.proofs.laws.roots_lead.Goals as goal

pub returns : goal.returns
returns c = root_law
