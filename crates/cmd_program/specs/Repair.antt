-- `repair`: its words and its phases. What it promises is Headline.antt.
use Rattle.std.specs.Prelude.{◌++◌, ◌∷◌, ◌≡◌, List, Option, Some, [], codes, ℕ}
use Rattle.cmd_phases.specs.OfCert.{AreConditionsFor, cert_in}
use Rattle.cert_writer.specs.Text.{cert_text}
use Rattle.cmd_program.specs.Lines.{IsLines}
use Rattle.cmd_program.specs.declared.commands.repair.Repair.{Repair}
use Rattle.replay_code.specs.Written.{code_text}
use Rattle.cmd_phases.specs.OfCond.{ConditionView}
use Rattle.design_circuit.specs.Handed.{IsReplay}
use Rattle.design_circuit.specs.History.{HistoryView}
use Rattle.design_circuit.specs.declared.force.Event.{Event}
use Rattle.replay_forces.specs.ForcesOf.{forces_of}
use Rattle.replay_forces.specs.Waves.{values_of}
use Rattle.cmd_job.specs.Compared.{job_for}
use Rattle.cmd_job.specs.declared.netlist.Netlist.{Netlist as ANetlist}
use Rattle.cmd_job.specs.declared.recorded.Recorded.{Recorded}
use Rattle.base_line.specs.Apart.{AreApart}
use Rattle.base_line.specs.Line.{Text}
use Rattle.cmd_phases.specs.OfListing.{conditions_text}
use Rattle.recording_binding.specs.declared.binding.Binding.{Binding}
use Rattle.recording_writer.specs.Text.{vcd_text}
use Rattle.cmd_phases.specs.Certificate.{ConditionsCome, form_of}
use Rattle.cmd_phases.specs.Phases.{agreed_then, no_cause, scope_of, walk_cause}
use Rattle.cmd_phases.specs.Repair.{Found, WalkComes, beginning}
use Rattle.cmd_phases.specs.Texts.{AreRefused, IsJob, IsOneCause, RepairFails, netlist_held, recording_held}
use Rattle.cmd_phases.specs.declared.cause.Refused.{Refused}
use Rattle.cmd_phases.specs.declared.parts.Parts.{Parts}
use Rattle.cmd_phases.specs.Repaired.{IsObjection}
use Rattle.replay_history.specs.Fault.{IsFaultless}
use Rattle.report_bits.specs.Report.{report_text}
use Rattle.report_bits.specs.declared.lines.ReportLines.{ReportLines}
use Rattle.base_run.specs.Phases.{◌>>=◌, Answer, Phases, searches}
use Rattle.base_shelf.specs.Shelf.{Files}
use Rattle.wave_proved.specs.Contents.{Contents, job as wave_job}
use Rattle.wave_proved.specs.Shown.{ShowsWave}
use Rattle.wave_proved.specs.declared.advance.Optimistic.{Optimistic as Otherwise}
use Rattle.cmd_words.specs.Words.{GivesJob, IsCount, IsForm, JobValues, job_values}
use Rattle.cmd_words.specs.declared.words.Form.{Form}
use Rattle.law_model.specs.declared.limits.Limits.{Limits}
use Rattle.cmd_program.specs.Limits.{AreLimitsOf}

-- ---- words

pub record RepairValues : Type 0 where
  pub job : JobValues
  pub vcd : Text
  pub code : Text
  pub cert : Text
  pub form : Form
  pub limits : Limits
  pub lines : ReportLines

-- These are those of `repair`, and each file that is written has a name of its own.
pub record GivesRepair (option : Text → Option Text) (v : RepairValues) : Type 0 where
  pub job : GivesJob option v.job
  pub vcd : option (codes "vcd") ≡ Some v.vcd
  pub code : option (codes "code") ≡ Some v.code
  pub cert : option (codes "cert") ≡ Some v.cert
  pub form : IsForm (option (codes "form")) v.form
  pub limits : AreLimitsOf option v.limits
  pub lines : IsLines (option (codes "report")) v.lines
  pub apart : AreApart (v.vcd ∷ v.code ∷ v.cert ∷ []) (v.job.recording ∷ v.job.netlists)

abbrev pub repair_values : Repair → RepairValues
repair_values words = record {
  job = job_values words.job;
  vcd = words.vcd.now;
  code = words.code.now;
  cert = words.cert.now;
  form = words.form;
  limits = words.limits;
  lines = words.lines;
}

-- ---- phases

-- The forces of what a wave shows.
abbrev pub forces_in : Contents → List Event
forces_in wave = forces_of (wave_job wave) (values_of wave)

-- V, C and X are written in this order, and the report is printed.
abbrev pub answer_with : RepairValues → List ℕ → List ℕ → List ℕ → List ℕ → Answer
answer_with w vcd code cert report = record {
  files = record { name = w.vcd; bytes = vcd } ∷ record { name = w.code; bytes = code }
      ∷ record { name = w.cert; bytes = cert } ∷ [];
  printed = report;
}

-- The report of a wave, and the lines of conditions.
abbrev pub whole_report : Contents → Binding → ReportLines → List ConditionView → List ℕ
whole_report wave binding lines conditions =
    report_text wave binding lines (forces_in wave) ++ conditions_text wave conditions

-- V is the text of what the wave shows, C the code that forces it, X the certificate of the wave and of conditions.
abbrev pub texts_answer : RepairValues → ANetlist → Recorded → Contents → HistoryView → List ConditionView → Answer
texts_answer w n r wave shown conditions =
    answer_with w (vcd_text n.design r.binding r.stim shown)
    (code_text n.design r.stim (scope_of w.job) (forces_in wave))
    (cert_text (cert_in (form_of w.form) wave conditions)) (whole_report wave r.binding w.lines conditions)

-- An answer is made so of a history that the wave shows, and of conditions of the wave, as the form asks for.
pub record HasTexts (w : RepairValues) (n : ANetlist) (r : Recorded) (wave : Contents) (answer : Answer) : Type 0 where
  pub shown : HistoryView
  pub shows : ShowsWave wave shown
  pub conditions : List ConditionView
  pub conditions_are : AreConditionsFor (form_of w.form) wave conditions
  pub is : answer ≡ texts_answer w n r wave shown conditions

abbrev pub repair_answer : RepairValues → ANetlist → Recorded → Found → List ConditionView → Answer
repair_answer w n r found conditions = texts_answer w n r found.wave found.shown conditions

abbrev pub texts_phases : RepairValues → ANetlist → Recorded → Found → Phases Answer Refused
texts_phases w n r found = do
  conditions ← searches (ConditionsCome (form_of w.form) found.wave) no_cause
  Phases.Finds (repair_answer w n r found conditions)

abbrev pub walk_phases : RepairValues → Parts → Phases Answer Refused
walk_phases w job = do
  found ← searches (WalkComes w.limits job.netlist job.recorded) walk_cause
  texts_phases w job.netlist job.recorded found

abbrev pub repair_phases : RepairValues → Phases Answer Refused
repair_phases w = agreed_then w.job (walk_phases w)

-- ---- texts in order, and texts that are refused

-- The texts stand for a job that agrees, and no place is found otherwise.
pub record IsRepairable (w : JobValues) (limits : Limits) (netlist recording : List ℕ) : Type 0 where
  pub n : ANetlist
  pub r : Recorded
  pub job : IsJob w netlist recording n r
  pub faultless : IsFaultless (job_for n r) r.recording r.binding
  pub none : (history : HistoryView) (found : Otherwise) → IsReplay (job_for n r) history
      → IsObjection (beginning limits n r history) found → ⊥

-- What the texts are refused for; a place found otherwise without an undecided line before it is that of the texts.
pub record FailsAsRepair (w : JobValues) (limits : Limits) (files : Files) (cause : Refused) : Type 0 where
  pub refused : AreRefused w (netlist_held files w) (recording_held files w) (RepairFails limits) cause
  pub one : IsOneCause w (netlist_held files w) (recording_held files w) cause
