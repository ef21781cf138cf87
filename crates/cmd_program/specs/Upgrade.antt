-- `upgrade`: its words, its phases, and what it promises.
use Rattle.std.specs.Prelude.{◌++◌, ◌∷◌, ◌≡◌, ◌≤◌, List, Option, Some, [], codes, length, true, ℕ}
use Rattle.cmd_phases.specs.OfCert.{IsAccepted, lines_in, cert_in}
use Rattle.cert_writer.specs.Text.{cert_text}
use Rattle.cert_writer.specs.Wrong.{IsTextOf}
use Rattle.cert_writer.specs.declared.cert.Cert.{Cert}
use Rattle.cert_writer.specs.declared.cert.Form.TheVariants.{Lines, Turns}
use Rattle.cmd_program.specs.Conditions.{Condition, HaveConditions, cert_by, needs_lines}
use Rattle.cmd_program.specs.Headline.{RepairedJob, circuit_of, value_in, wave_of, wave_of_job}
use Rattle.cmd_program.specs.Lines.{IsLines}
use Rattle.cmd_program.specs.Needs.{EachNeeds}
use Rattle.cmd_program.specs.Repair.{whole_report}
use Rattle.cmd_program.specs.declared.commands.upgrade.Upgrade.{Upgrade}
use Rattle.cmd_phases.specs.OfCond.{ConditionView}
use Rattle.design_circuit.specs.History.{HistoryView}
use Rattle.design_circuit.specs.declared.force.Event.{Event}
use Rattle.design_circuit.specs.declared.waveform.Written.{Written}
use Rattle.replay_forces.specs.ForcesOf.{AreForcesOf}
use Rattle.cmd_job.specs.declared.netlist.Netlist.{Netlist as ANetlist}
use Rattle.cmd_job.specs.declared.recorded.Recorded.{Recorded}
use Rattle.base_line.specs.Apart.{AreApart}
use Rattle.base_line.specs.Line.{Text}
use Rattle.base_line.specs.Tables.{Reads, Writes, needs}
use Rattle.cmd_phases.specs.Certificate.{CheckComes, ConditionsCome, FormComes}
use Rattle.cmd_phases.specs.Code.{text_limit}
use Rattle.cmd_phases.specs.Phases.{agreed_then, certificate_phases, itself, no_cause, uncertified_cause}
use Rattle.cmd_phases.specs.Repair.{AgreesThroughout, FitsJob, beginning}
use Rattle.cmd_phases.specs.Texts.{AreRefused, IsJob, UpgradeFails, netlist_held, recording_held}
use Rattle.cmd_phases.specs.declared.cause.Refused.{Refused}
use Rattle.cmd_phases.specs.declared.parts.Parts.{Parts}
use Rattle.report_bits.specs.Report.{report_text}
use Rattle.report_bits.specs.declared.lines.ReportLines.{ReportLines}
use Rattle.base_run.specs.Phases.{◌>>=◌, Answer, Phases, judges, searches, text_held}
use Rattle.cmd_set.specs.Command.{Command}
use Rattle.base_shelf.specs.Shelf.{Files}
use Rattle.wave_proved.specs.Contents.{Contents}
use Rattle.cmd_words.specs.Words.{GivesJob, IsCount, JobValues, job_reads, job_values}
use Rattle.cmd_words.specs.Forms as shared
use Rattle.law_model.specs.declared.limits.Limits.{Limits}
use Rattle.cmd_program.specs.Limits.{AreLimitsOf}

-- ---- words

pub record UpgradeValues : Type 0 where
  pub job : JobValues
  pub cert : Text
  pub to : Text
  pub limits : Limits
  pub lines : ReportLines

-- These are those of `upgrade`, and the file that is written has another name than each that is read.
pub record GivesUpgrade (option : Text → Option Text) (v : UpgradeValues) : Type 0 where
  pub job : GivesJob option v.job
  pub cert : option (codes "cert") ≡ Some v.cert
  pub to : option (codes "to") ≡ Some v.to
  pub limits : AreLimitsOf option v.limits
  pub lines : IsLines (option (codes "report")) v.lines
  pub apart : AreApart (v.to ∷ []) (v.job.recording ∷ v.cert ∷ v.job.netlists)

abbrev pub upgrade_values : Upgrade → UpgradeValues
upgrade_values words = record {
  job = job_values words.job;
  cert = words.cert.now;
  to = words.to.now;
  limits = words.limits;
  lines = words.lines;
}

-- ---- phases

-- Y is the certificate of form 2 of a wave and of conditions, and the report is printed with the lines of these.
abbrev pub upgrade_answer : UpgradeValues → Parts → Contents → List ConditionView → Answer
upgrade_answer w job wave conditions = record {
  files = record { name = w.to; bytes = cert_text (cert_in Turns wave conditions) } ∷ [];
  printed = whole_report wave job.recorded.binding w.lines conditions;
}

abbrev pub turned_phases : UpgradeValues → Parts → Contents → Phases Answer Refused
turned_phases w job wave = do
  conditions ← searches (ConditionsCome Turns wave) no_cause
  Phases.Finds (upgrade_answer w job wave conditions)

abbrev pub checked_upgrade : UpgradeValues → Parts → Cert → Phases Answer Refused
checked_upgrade w job cert = do
  shows ← judges (CheckComes w.limits job cert) itself
  turned_phases w job shows.wave

abbrev pub formed_upgrade : UpgradeValues → Parts → Cert → Phases Answer Refused
formed_upgrade w job cert = do
  plain ← judges (FormComes cert) uncertified_cause
  checked_upgrade w job cert

abbrev pub certified_upgrade : UpgradeValues → Parts → Phases Answer Refused
certified_upgrade w job = do
  cert ← certificate_phases w.cert
  formed_upgrade w job cert

abbrev pub upgrade_phases : UpgradeValues → Phases Answer Refused
upgrade_phases w = agreed_then w.job (certified_upgrade w)

-- ---- promises

-- Y stands for the certificate of form 2 of a waveform, of lines and of conditions, and that is accepted for the job:
-- its lines of Line places are these, and yield the waveform.
pub record IsUpgrade (w : UpgradeValues) (n : ANetlist) (r : Recorded) (replay : HistoryView)
    (waveform : List Written) (certificate : Cert) (conditions : List Condition) (upgraded : Cert)
    (text : List ℕ) : Type 0 where
  pub is : upgraded
      ≡ cert_by Turns (wave_of n r replay w.limits waveform (lines_in certificate.entries)) conditions
  pub stands : IsTextOf text upgraded
  pub accepted : IsAccepted (beginning w.limits n r replay) upgraded waveform
  pub lines_are : lines_in upgraded.entries ≡ lines_in certificate.entries

-- The texts stand for a job that is repaired by a certificate.
pub record Upgrades (w : UpgradeValues) (netlist recording cert text report : List ℕ) : Type 0 where
  pub job : RepairedJob w.job w.limits netlist recording
  pub fits : FitsJob job.n job.r
  -- X stands for this one, which is of form 1 and accepted, whoever wrote it: its lines yield the waveform.
  pub certificate : Cert
  pub stands : IsTextOf cert certificate
  pub lines_are : job.lines ≡ lines_in certificate.entries
  pub form_is : certificate.form ≡ Lines
  pub accepted : IsAccepted (beginning w.limits job.n job.r job.replay) certificate job.waveform
  -- There is a condition for each certain Line place.
  pub conditions : List Condition
  pub conditions_are : HaveConditions Turns (circuit_of job) w.limits.conflicts job.waveform job.lines
      conditions
  -- Y is the certificate of form 2 of the same lines, with the turns of the conditions, and is accepted too.
  pub upgraded : Cert
  pub upgrade : IsUpgrade w job.n job.r job.replay job.waveform certificate conditions upgraded text
  -- What is printed is the report of that waveform, and the lines of the conditions.
  pub events : List Event
  pub are : AreForcesOf (circuit_of job) (value_in job.waveform) events
  pub report_is : report
      ≡ report_text (wave_of_job job) job.r.binding w.lines events ++ needs_lines (wave_of_job job) conditions
  -- Each of these places needs the places that its line lists.
  pub needs : EachNeeds (circuit_of job) job.waveform conditions

-- Y is written, and it and the report are of the certificate that the file of X holds.
pub record SaysUpgrade (files : Files) (w : UpgradeValues) (answer : Answer) : Type 0 where
  pub upgraded : List ℕ
  pub report : List ℕ
  pub answer_is : answer ≡ record { files = record { name = w.to; bytes = upgraded } ∷ []; printed = report }
  pub upgrades : Upgrades w (netlist_held files w.job) (recording_held files w.job) (text_held files (w.cert ∷ []))
      upgraded report

-- So they do, with one of form 1.
pub record IsUpgradable (w : UpgradeValues) (netlist recording cert : List ℕ) : Type 0 where
  pub n : ANetlist
  pub r : Recorded
  pub job : IsJob w.job netlist recording n r
  pub replay : HistoryView
  pub agrees : AgreesThroughout n r replay
  pub fits : length cert ≤ text_limit
  pub certificate : Cert
  pub stands : IsTextOf cert certificate
  pub form_is : certificate.form ≡ Lines
  pub waveform : List Written
  pub accepted : IsAccepted (beginning w.limits n r replay) certificate waveform

-- ---- the command

abbrev pub upgrade : Command Refused
upgrade = record {
  word = codes "upgrade";
  table = shared.job (needs (codes "cert") Reads ∷ needs (codes "to") Writes ∷ shared.conflicts ∷ shared.enumerate
      ∷ shared.report ∷ []);
  has_files = true;
  Values = UpgradeValues;
  files = λ v. v.job.netlists;
  Gives = GivesUpgrade;
  inputs = λ v. v.cert ∷ job_reads v.job;
  most = text_limit;
  phases = upgrade_phases;
  InOrder = λ files v. IsUpgradable v (netlist_held files v.job) (recording_held files v.job)
      (text_held files (v.cert ∷ []));
  Says = SaysUpgrade;
  Fails = λ files v cause. AreRefused v.job (netlist_held files v.job) (recording_held files v.job)
      (UpgradeFails v.limits (text_held files (v.cert ∷ []))) cause;
}
