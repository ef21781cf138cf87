-- The audit of a job: a blank history is contradicted nowhere, and the wave over it is one of the job.
use Rattle.std.proofs.Common.{◌≡◌, ℕ, Result, Ok, Err, IfErr, List, length, refl, sym, ap, subst}
use Rattle.report_audit.specs.Listed.{IsAudit}
use Rattle.design_cell.specs.Value.{IsKnown}
use Rattle.design_cell.specs.declared.value.Value.{Value}
use Rattle.design_cell.specs.declared.value.Value.TheVariants.{X}
use Rattle.design_circuit.specs.Handed.{IsBlank, IsReplay}
use Rattle.design_circuit.specs.History.{HistoryView}
use Rattle.design_circuit.specs.Replay.{Held}
use Rattle.design_circuit.specs.declared.waveform.Mark.{Mark}
use Rattle.design_circuit.specs.declared.waveform.Mark.TheVariants.{Certain, Unknown, Undecided}
use Rattle.cmd_job.specs.Compared.{job_for}
use Rattle.cmd_job.specs.declared.netlist.Netlist.{Netlist as ANetlist}
use Rattle.cmd_job.specs.declared.recorded.Recorded.{Recorded}
use Rattle.law_model.specs.Sound.{IsOptimistic}
use Rattle.law_model.specs.declared.limits.Limits.{Limits}
use Rattle.cmd_phases.proofs.AgreeingObjections.{objections_object}
use Rattle.base_run.specs.Prepared.{IsJudgedBy, PreparedAlone, answer_of}
use Rattle.base_run.specs.Phases.{Answer}
use Rattle.base_run.specs.declared.ready.Ready.{Ready}
use Rattle.base_run.specs.declared.refusal.Refusal.{Refusal}
use Rattle.base_run.specs.declared.refusal.Refusal.TheVariants.{Read, Long, Text, Memory}
use Rattle.base_run.proofs.Then.{searched_prepared}
use Rattle.wave_proved.specs.Contents.{Contents, IsFinished, IsWave, job, nothing_written}
use Rattle.cmd_program.specs.Audit.{AuditValues, AuditComes, ListsAudit, PrintsAudit, Audits, walk_audited}
use Rattle.cmd_program.specs.Headline.{wave_of}
use Rattle.cmd_phases.specs.Phases.{no_cause, walk_cause, parts}
use Rattle.cmd_phases.specs.Repair.{IsObjectionBy, IsRepairedBy, WaveComes}
use Rattle.cmd_phases.specs.Texts.{IsAgreed, IsJob}
use Rattle.cmd_phases.specs.declared.cause.Objection.{Objection}
use Rattle.cmd_phases.specs.declared.cause.Refused.{Refused}

-- Nothing contradicts what isn't known.
unknown_stands : (mark : Mark) (value shown : Value) → shown ≡ X → IsOptimistic mark value shown → ⊥
unknown_stands Certain value shown is objects = subst IsKnown is objects.0
unknown_stands Unknown value shown is objects = subst IsKnown is objects
unknown_stands Undecided value shown is objects = objects

module _ (limits : Limits) (n : ANetlist) (r : Recorded) (blank : HistoryView) (is : IsBlank (job_for n r) blank) where
  none_objects : (o : Objection) → IsObjectionBy limits n r.stim blank o → ⊥
  none_objects o by =
      let start = nothing_written n.design n.order r.stim blank limits in
      let objects = objections_object start by.otherwise by.objects in
      unknown_stands by.objects.written.mark by.objects.written.value _
      (ap (λ (h : Held). h.shown) (is.held (length by.objects.before.written) objects.said.within)) objects.optimistic

  -- So a walk over a blank history is refused for no text.
  pub blank_refused : {X : Type 0} (result : Result X (Refusal Refused))
      → IfErr result (IsJudgedBy (WaveComes limits n r.stim blank) walk_cause)
      → IfErr result (IsJudgedBy (AuditComes limits n r) no_cause)
  blank_refused (Ok x) refused = refused
  blank_refused (Err (Read file)) refused = refused
  blank_refused (Err (Long cause)) refused = refused
  blank_refused (Err (Text cause)) (objection, by, same) = absurd (none_objects objection by)
  blank_refused (Err Memory) refused = refused

  -- The wave over it is one of the job with what it wrote.
  pub wave_same : (wave : Contents) → IsRepairedBy limits n r.stim blank wave
      → wave ≡ wave_of n r blank limits wave.written wave.lines
  wave_same wave repaired =
      let a = repaired.of_job.design in
      let b = repaired.of_job.order in
      let d = repaired.of_job.stim in
      let e = repaired.of_job.history in
      let f = repaired.of_job.limits in
      rw (← a, ← b, ← d, ← e, ← f) refl

  pub is_audit : (wave : Contents) (replay : HistoryView) → IsRepairedBy limits n r.stim blank wave
      → IsReplay (job_for n r) replay → IsAudit wave replay
  is_audit wave replay repaired is_replay =
      let same = wave_same wave repaired in
      record {
        finished = repaired.finished;
        blank = subst (λ (c : Contents). IsBlank (job c) c.history) (sym same) is;
        replayed = subst (λ (c : Contents). IsReplay (job c) replay) (sym same) is_replay;
      }

-- An audit that is printed.
pub audit_found : (w : AuditValues) (n : ANetlist) (r : Recorded) (ready : Ready)
    → ListsAudit w.limits n r (answer_of ready) → PreparedAlone (walk_audited w (parts n r)) answer_of (Ok ready)
audit_found w n r ready lists = λ told v.
    searched_prepared told (AuditComes w.limits n r) no_cause answer_of v (Ok ready) record { found = lists; refused = tt }

-- What it promises.
pub audits : (w : AuditValues) (netlist recording : List ℕ) (answer : Answer) (n : ANetlist) (r : Recorded)
    → IsJob w.job netlist recording n r → IsAgreed (parts n r) → ListsAudit w.limits n r answer
    → Audits w netlist recording answer
audits w netlist recording answer n r job_is agreed lists =
    let wave = lists.wave in
    let same = wave_same w.limits n r lists.blank lists.is_blank wave lists.repaired in
    record {
      n = n;
      r = r;
      job = job_is;
      replay = lists.replay;
      agrees = record { replay = lists.is_replay; faultless = agreed };
      blank = lists.blank;
      is_blank = lists.is_blank;
      waveform = wave.written;
      lines = wave.lines;
      whole = subst IsFinished same lists.repaired.finished;
      holds = (subst IsWave same lists.repaired.sound).holds;
      prints = subst (λ (c : Contents). PrintsAudit c lists.replay answer) same lists.prints;
    }
