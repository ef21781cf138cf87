-- The law.
use Rattle.cmd_make.proofs.OneRecording.{one_recording}
use Rattle.cmd_make.proofs.laws.recordings_are_one.Goals as goal

pub returns : goal.returns
returns c = one_recording
