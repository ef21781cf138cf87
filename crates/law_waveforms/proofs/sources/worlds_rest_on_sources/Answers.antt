-- The law stands in its lemma.
use Rattle.law_waveforms.proofs.GivenWorlds.{cut_law}
use Rattle.law_waveforms.proofs.sources.worlds_rest_on_sources.Goals as goal

pub returns : goal.returns
returns c = cut_law
