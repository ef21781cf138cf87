-- What is found otherwise is so than the replay knows it.
use Rattle.cmd_phases.proofs.Walks.{replay_refused}
use Rattle.cmd_phases.proofs.walked.replay_wave.Goals as goal

pub returns-clause-refused : goal.returns-clause-refused
returns-clause-refused g c =
    replay_refused c.args.limits c.args.netlist.now c.args.stim.now c.args.history.now c.requires.replay c.wave_under.result c.wave_under.ensures.refused
