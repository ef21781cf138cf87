-- `audit`: its words, its phases, and what it promises.
use Rattle.std.specs.Prelude.{◌∷◌, ◌≡◌, Err, List, Ok, Option, Result, [], codes, length, true, ℕ}
use Rattle.cmd_program.specs.Headline.{wave_of}
use Rattle.cmd_program.specs.declared.commands.audit.Audit.{Audit}
use Rattle.design_circuit.specs.Handed.{IsBlank, IsReplay, shown_of}
use Rattle.design_circuit.specs.History.{HistoryView}
use Rattle.design_circuit.specs.Job.{places_of}
use Rattle.design_circuit.specs.declared.waveform.Written.{Written}
use Rattle.cmd_job.specs.Compared.{IsRefusedReplay, job_for}
use Rattle.cmd_job.specs.declared.compare_refusal.CompareRefusal.{CompareRefusal}
use Rattle.cmd_job.specs.declared.netlist.Netlist.{Netlist as ANetlist}
use Rattle.cmd_job.specs.declared.recorded.Recorded.{Recorded}
use Rattle.base_line.specs.Line.{Text}
use Rattle.cmd_phases.specs.OfListing.{TellsAudit}
use Rattle.law_model.specs.Growth.{Holds}
use Rattle.law_model.specs.declared.line.Line.{Line as ALine}
use Rattle.law_model.specs.declared.limits.Limits.{Limits}
use Rattle.cmd_phases.specs.Phases.{agreed_then, no_cause}
use Rattle.cmd_phases.specs.Repair.{AgreesThroughout, FitsJob, IsRepairedBy, recording_limit}
use Rattle.cmd_phases.specs.Texts.{AreRefused, IsJob, netlist_held, recording_held}
use Rattle.cmd_phases.specs.declared.cause.Refused.{Refused}
use Rattle.cmd_phases.specs.declared.cause.Refused.TheVariants.{Compare}
use Rattle.cmd_phases.specs.declared.parts.Parts.{Parts}
use Rattle.replay_history.specs.Fault.{IsFaultless}
use Rattle.base_run.specs.Phases.{Answer, Phases, searches}
use Rattle.cmd_set.specs.Command.{Command}
use Rattle.base_shelf.specs.Shelf.{Files}
use Rattle.wave_proved.specs.Contents.{Contents}
use Rattle.cmd_words.specs.Words.{GivesJob, IsCount, JobValues, job_reads, job_values}
use Rattle.cmd_words.specs.Forms as shared
use Rattle.cmd_program.specs.Limits.{AreLimitsOf}

-- ---- words

pub record AuditValues : Type 0 where
  pub job : JobValues
  pub limits : Limits

-- These are those of `audit`, which writes no file.
pub record GivesAudit (option : Text → Option Text) (v : AuditValues) : Type 0 where
  pub job : GivesJob option v.job
  pub limits : AreLimitsOf option v.limits

abbrev pub audit_values : Audit → AuditValues
audit_values words = record { job = job_values words.job; limits = words.limits }

-- ---- phases

-- No file is written, and what is printed is the audit of a wave beside a replay.
pub record PrintsAudit (wave : Contents) (replay : HistoryView) (answer : Answer) : Type 0 where
  pub files_are : answer.files ≡ []
  pub tells : TellsAudit wave replay answer.printed

-- It is that of a finished wave of the job over a blank history, beside the job's replay.
pub record ListsAudit (limits : Limits) (n : ANetlist) (r : Recorded) (answer : Answer) : Type 0 where
  pub fits : FitsJob n r
  pub replay : HistoryView
  pub is_replay : IsReplay (job_for n r) replay
  pub blank : HistoryView
  pub is_blank : IsBlank (job_for n r) blank
  pub wave : Contents
  pub repaired : IsRepairedBy limits n r.stim blank wave
  pub prints : PrintsAudit wave replay answer

-- That is found; it comes to nothing else.
abbrev pub AuditComes : Limits → ANetlist → Recorded → Result Answer ⊥ → Type 0
AuditComes limits n r (Ok answer) = ListsAudit limits n r answer
AuditComes limits n r (Err none) = ⊥

-- The places that the replay knows otherwise are printed. Over a blank history the walk finds no place otherwise.
abbrev pub walk_audited : AuditValues → Parts → Phases Answer Refused
walk_audited w job = searches (AuditComes w.limits job.netlist job.recorded) no_cause

abbrev pub audit_phases : AuditValues → Phases Answer Refused
audit_phases w = agreed_then w.job (walk_audited w)

-- ---- promises

-- The texts stand for a job whose recording agrees with its replay; there are a history that knows nothing, and a
-- waveform of all places and lines, so that:
pub record Audits (w : AuditValues) (netlist recording : List ℕ) (answer : Answer) : Type 0 where
  pub n : ANetlist
  pub r : Recorded
  pub job : IsJob w.job netlist recording n r
  pub replay : HistoryView
  pub agrees : AgreesThroughout n r replay
  pub blank : HistoryView
  pub is_blank : IsBlank (job_for n r) blank
  pub waveform : List Written
  pub lines : List ALine
  pub whole : length waveform ≡ places_of (job_for n r)
  -- The waveform is sound for the history that knows nothing, and the lines yield it.
  pub holds : Holds (job_for n r) w.limits (shown_of (job_for n r) blank) waveform lines
  -- No file is written. What is printed has exactly the places that the replay knows and the waveform has otherwise,
  -- with what is found there, the rows of primitives that gave the origins among them, and how many places are open.
  pub prints : PrintsAudit (wave_of n r blank w.limits waveform lines) replay answer

-- No file is written, and what is printed is of the texts that the files hold.
abbrev pub SaysAudit : Files → AuditValues → Answer → Type 0
SaysAudit files w answer = Audits w (netlist_held files w.job) (recording_held files w.job) answer

-- The texts stand for a job that agrees.
pub record IsAuditable (w : AuditValues) (netlist recording : List ℕ) : Type 0 where
  pub n : ANetlist
  pub r : Recorded
  pub job : IsJob w.job netlist recording n r
  pub faultless : IsFaultless (job_for n r) r.recording r.binding

-- `audit`: the recording disagrees. No place is found otherwise than a blank history knows it.
pub data AuditFails (job : Parts) : Refused → Type 0 where
  disagrees : {e : CompareRefusal} → IsRefusedReplay job.netlist job.recorded e → AuditFails job (Compare e)

-- ---- the command

abbrev pub audit : Command Refused
audit = record {
  word = codes "audit";
  table = shared.job (shared.conflicts ∷ shared.enumerate ∷ []);
  has_files = true;
  Values = AuditValues;
  files = λ v. v.job.netlists;
  Gives = GivesAudit;
  inputs = λ v. job_reads v.job;
  most = recording_limit;
  phases = audit_phases;
  InOrder = λ files v. IsAuditable v (netlist_held files v.job) (recording_held files v.job);
  Says = SaysAudit;
  Fails = λ files v cause. AreRefused v.job (netlist_held files v.job) (recording_held files v.job) AuditFails cause;
}
