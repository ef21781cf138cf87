-- Nothing is forced.
use Rattle.design_circuit.specs.Job.{job_of}
use Rattle.cmd_job.proofs.Comparing.{unforced}
use Rattle.cmd_phases.proofs.sets.replay_of.Goals as goal

pub returns : goal.returns
returns c = unforced (job_of c.args.netlist.now.design c.args.netlist.now.order c.args.stim.now) _ _ c.empty-forces.ensures c.in_ok-history.ensures
