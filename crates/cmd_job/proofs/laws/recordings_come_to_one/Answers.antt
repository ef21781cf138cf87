-- The law, for every text.
use Rattle.cmd_job.proofs.OneRecording.{one_recording}
use Rattle.cmd_job.proofs.laws.recordings_come_to_one.Goals as goal

pub returns : goal.returns
returns c = one_recording
