-- The recording is read, then judged.
use Rattle.std.proofs.Common.{◌≡◌, ◌∙◌, ℕ, IfOk, List, [], ◌∷◌, subst}
use Rattle.base_run.specs.Phases.{judges}
use Rattle.base_run.specs.Prepared.{Judged}
use Rattle.base_run.proofs.Then.{judged_prepared, read_then}
use Rattle.cmd_job.specs.Recorded.{RecordingComes, job_netlist}
use Rattle.cmd_job.specs.declared.recorded.Recorded.{Recorded}
use Rattle.cmd_job.specs.declared.rules.Rules.{Rules}
use Rattle.cmd_words.specs.Words.{job_values}
use Rattle.cmd_phases.specs.Phases.{itself, recording_cause, scope_of}
use Rattle.cmd_phases.specs.Repair.{recording_limit, rules_of}
use Rattle.cmd_phases.specs.declared.cause.Refused.TheVariants.{LongRecording}
use Rattle.cmd_phases.proofs.job.recorded_of.Goals as goal

pub returns-clause-prepared : goal.returns-clause-prepared
returns-clause-prepared g c =
    let told = g.S.Shelf.told in
    let w = job_values c.args.words.now in
    let n = c.args.netlist.now in
    let old = g.S.Shelf.view c.args.shelf.now in
    let new = g.S.Shelf.view c.read_input.new.shelf in
    let text = c.in_ok-text.text in
    let by = subst (λ (x : Rules). Judged (RecordingComes c.as_slice.result.now n.design c.as_slice-2.result.now w.rounds w.places x) recording_cause itself c.recorded_in.result)
    c.rules_of.ensures c.recorded_in.ensures.judged in
    let a = subst (λ (l : List ℕ). Judged (RecordingComes l n.design c.as_slice-2.result.now w.rounds w.places (rules_of w)) recording_cause itself c.recorded_in.result)
    c.as_slice.ensures.value by in
    let b = subst (λ (s : List (List ℕ)). Judged (RecordingComes text.items n.design s w.rounds w.places (rules_of w)) recording_cause itself c.recorded_in.result)
    (c.as_slice-2.ensures.value ∙ c.in_ok-scope.ensures.pieces) a in
    read_then told (w.recording ∷ []) recording_limit LongRecording
    (λ (l : List ℕ). judges (RecordingComes l n.design (scope_of w) w.rounds w.places (rules_of w)) recording_cause) itself old new new
    text c.recorded_in.result c.in_ok-text.ensures
    (judged_prepared told (RecordingComes text.items n.design (scope_of w) w.rounds w.places (rules_of w)) recording_cause itself new c.recorded_in.result b)

pub returns-clause-netlist : goal.returns-clause-netlist
returns-clause-netlist g c =
    let n = c.args.netlist.now in
    subst (λ (x : Rules). IfOk c.recorded_in.result (λ (r : Recorded). c.recorded_in.new.netlist ≡ job_netlist x.undriven n r.binding.bound))
    c.rules_of.ensures c.recorded_in.ensures.netlist
