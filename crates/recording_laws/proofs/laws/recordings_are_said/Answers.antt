-- What the machine reads is said.
use Rattle.recording_laws.proofs.Said.{recordings_are_said}
use Rattle.recording_laws.proofs.laws.recordings_are_said.Goals as goal

pub returns : goal.returns
returns c = recordings_are_said
