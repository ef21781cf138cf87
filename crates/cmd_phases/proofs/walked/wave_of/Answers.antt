-- What is found otherwise is so than the replay knows it.
use Rattle.cmd_phases.proofs.Walks.{walk_refused}
use Rattle.cmd_phases.proofs.walked.wave_of.Goals as goal

pub returns-clause-refused : goal.returns-clause-refused
returns-clause-refused g c =
    walk_refused c.args.limits c.args.agreed.now.parts.netlist c.args.agreed.now.parts.recorded c.args.agreed.now.history c.args.agreed.now.replay c.wave_under.result c.wave_under.ensures.refused
