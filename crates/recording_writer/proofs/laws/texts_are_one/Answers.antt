-- The law, for all histories.
use Rattle.recording_writer.proofs.OneText.{text_same}
use Rattle.recording_writer.proofs.laws.texts_are_one.Goals as goal

pub returns : goal.returns
returns c = λ design binding stim first second fits same. text_same design binding stim first second fits same
