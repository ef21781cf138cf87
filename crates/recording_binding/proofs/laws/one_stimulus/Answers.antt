-- The law, for every recording.
use Rattle.recording_binding.proofs.Stimuli.{same_stim}
use Rattle.recording_binding.proofs.laws.one_stimulus.Goals as goal

pub returns : goal.returns
returns c = λ design recording holder rounds rule a b first second. same_stim design recording holder rounds rule a b first second
