-- The recording stands for one of the netlist's design, and then its repair.
use Rattle.std.proofs.Common.{ℕ, List, Ok, subst}
use Rattle.cmd_job.specs.Recorded.{RecordingComes}
use Rattle.cmd_job.specs.declared.netlist.Netlist.{Netlist as ANetlist}
use Rattle.cmd_job.specs.declared.recorded.Recorded.{Recorded}
use Rattle.base_run.specs.Prepared.{Judged, PreparedAlone, answer_of}
use Rattle.base_run.proofs.Then.{judged_then}
use Rattle.cmd_program.specs.Make.{make_values, made_job, repaired_made}
use Rattle.cmd_phases.specs.Phases.{itself, recording_cause, scope_of}
use Rattle.cmd_phases.specs.Repair.{rules_of}
use Rattle.cmd_program.proofs.made.recorded.Goals as goal

pub returns-clause-prepared : goal.returns-clause-prepared
returns-clause-prepared g c =
    let n = c.args.netlist in
    let text = c.args.texts.recording.items in
    let judged = subst (λ (l : List ℕ). Judged (RecordingComes l n.design (scope_of made_job) made_job.rounds made_job.places (rules_of made_job)) recording_cause itself
    (Ok c.in_ok-recorded.recorded)) c.as_slice.ensures.value c.in_ok-recorded.ensures.judged in
    judged_then (RecordingComes text n.design (scope_of made_job) made_job.rounds made_job.places (rules_of made_job)) recording_cause
    (λ (r : Recorded). repaired_made (make_values c.args.texts.words) text n r) itself answer_of
    c.in_ok-recorded.recorded c.repaired.result judged
    (subst (λ (x : ANetlist). PreparedAlone (repaired_made (make_values c.args.texts.words) text x c.in_ok-recorded.recorded) answer_of c.repaired.result)
    c.in_ok-recorded.ensures.same c.repaired.ensures.prepared)
