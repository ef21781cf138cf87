-- What is stored is a recording.
use Rattle.std.proofs.Common.{subst}
use Rattle.recording_reader.specs.Recording.{IsRecording}
use Rattle.recording_reader.proofs.Kept.{is_recording}
use Rattle.recording_reader.proofs.recording.Recording.times.Goals as goal

pub returns-clause-recording : goal.returns-clause-recording
returns-clause-recording c = subst IsRecording c.self.view_is (is_recording _ _ _ _ _ c.self.inside.changes.tracks c.self.invariant.0 c.self.invariant.1)
