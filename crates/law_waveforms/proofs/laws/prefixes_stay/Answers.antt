-- Each law stands in its lemma.
use Rattle.law_waveforms.proofs.Prefixes.{yields_prefix, sound_prefix, holds_prefix}
use Rattle.law_waveforms.proofs.laws.prefixes_stay.Goals as goal

pub returns-clause-yields : goal.returns-clause-yields
returns-clause-yields c = yields_prefix

pub returns-clause-sound : goal.returns-clause-sound
returns-clause-sound c = sound_prefix

pub returns-clause-holds : goal.returns-clause-holds
returns-clause-holds c = holds_prefix
