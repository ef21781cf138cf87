-- The history has a place for each net at each step.
use Rattle.cmd_program.proofs.TextsOf.{has_steps}
use Rattle.cmd_program.proofs.replayed.texts_of.Goals as goal

pub vcd_text-requires-clause-steps : goal.vcd_text-requires-clause-steps
vcd_text-requires-clause-steps c = has_steps c.args.job.now.parts.netlist c.args.job.now.parts.recorded c.args.history.now c.args.job.now.fits c.requires.places
