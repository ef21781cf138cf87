-- Each law stands in its lemma.
use Rattle.law_waveforms.proofs.SourceUnions.{carried_law, root_law, union_law}
use Rattle.law_waveforms.proofs.sources.sources_are_unions.Goals as goal

pub returns-clause-union : goal.returns-clause-union
returns-clause-union c = union_law

pub returns-clause-carried : goal.returns-clause-carried
returns-clause-carried c = carried_law

pub returns-clause-root : goal.returns-clause-root
returns-clause-root c = root_law
