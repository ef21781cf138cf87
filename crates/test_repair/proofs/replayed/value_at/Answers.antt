-- The history has each place of the job.
use Rattle.design_circuit.specs.Circuit.{job_in}
use Rattle.design_circuit.proofs.Handed.{has_place}
use Rattle.test_repair.proofs.replayed.value_at.Goals as goal

pub kept-requires : goal.kept-requires
kept-requires c = has_place (job_in c.args.circuit.now) c.args.history.now c.args.place c.requires.places c.requires.place

pub shown-requires : goal.shown-requires
shown-requires c = has_place (job_in c.args.circuit.now) c.args.history.now c.args.place c.requires.places c.requires.place
