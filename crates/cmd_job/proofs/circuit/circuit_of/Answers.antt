-- The circuit of a job fits.
use Rattle.cmd_job.proofs.Comparing.{circuit_fits}
use Rattle.cmd_job.proofs.circuit.circuit_of.Goals as goal

pub invariant_of-result : goal.invariant_of-result
invariant_of-result c = record { fits = circuit_fits c.args.netlist.now c.args.recorded.now c.requires.netlist c.requires.recorded }
