-- What the text comes to is the answer.
use Rattle.cmd_job.proofs.OneRecording.{recording_answer}
use Rattle.cmd_job.proofs.recorded.read_recording.Goals as goal

pub returns-clause-exact : goal.returns-clause-exact
returns-clause-exact c =
    let netlist = c.args.netlist.now in
    recording_answer c.args.text.now netlist.design c.args.settings.scope.now c.args.settings.rounds c.args.settings.most
    c.args.settings.rules
    c.find_recording.result c.find_recording.ensures.recorded c.find_recording.ensures.refused
