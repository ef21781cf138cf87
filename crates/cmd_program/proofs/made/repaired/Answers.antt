-- The recording agrees, and then the walk.
use Rattle.base_run.specs.Prepared.{answer_of}
use Rattle.base_run.proofs.Then.{judged_then}
use Rattle.cmd_program.specs.Make.{make_values, walk_made}
use Rattle.cmd_phases.specs.Phases.{compare_cause, nothing_in}
use Rattle.cmd_phases.specs.Repair.{CompareComes}
use Rattle.cmd_program.proofs.made.repaired.Goals as goal

pub returns-clause-prepared : goal.returns-clause-prepared
returns-clause-prepared g c =
    let n = c.args.job.parts.netlist in
    let r = c.args.job.parts.recorded in
    judged_then (CompareComes n r) compare_cause (λ (agreed : Unit {0}). walk_made (make_values c.args.texts.words) c.args.texts.recording.items n r)
    nothing_in answer_of c.in_ok-history.history c.walked.result c.in_ok-history.ensures.judged c.walked.ensures.prepared
