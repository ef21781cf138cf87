-- `check`: its words, its phases, and what it promises.
use Rattle.std.specs.Prelude.{◌++◌, ◌∷◌, ◌≡◌, ◌≤◌, List, Option, Some, [], codes, length, true, ℕ}
use Rattle.cmd_phases.specs.OfCert.{IsAccepted, lines_in}
use Rattle.cert_writer.specs.Wrong.{IsTextOf}
use Rattle.cert_writer.specs.declared.cert.Cert.{Cert}
use Rattle.cmd_program.specs.Conditions.{Condition, HaveConditions, entries_by, needs_lines}
use Rattle.cmd_program.specs.Headline.{RepairedJob, circuit_of, value_in, wave_of_job}
use Rattle.cmd_program.specs.Lines.{IsLines}
use Rattle.cmd_program.specs.Needs.{EachNeeds}
use Rattle.cmd_program.specs.Repair.{forces_in}
use Rattle.cmd_program.specs.declared.commands.check.Check.{Check}
use Rattle.design_circuit.specs.History.{HistoryView}
use Rattle.design_circuit.specs.declared.force.Event.{Event}
use Rattle.design_circuit.specs.declared.waveform.Written.{Written}
use Rattle.replay_forces.specs.ForcesOf.{AreForcesOf}
use Rattle.cmd_job.specs.declared.netlist.Netlist.{Netlist as ANetlist}
use Rattle.cmd_job.specs.declared.recorded.Recorded.{Recorded}
use Rattle.base_line.specs.Line.{Text}
use Rattle.base_line.specs.Tables.{Reads, needs}
use Rattle.cmd_phases.specs.Certificate.{CheckComes, CheckShows}
use Rattle.cmd_phases.specs.Code.{text_limit}
use Rattle.cmd_phases.specs.Phases.{agreed_then, certificate_phases, itself}
use Rattle.cmd_phases.specs.Repair.{AgreesThroughout, FitsJob, beginning}
use Rattle.cmd_phases.specs.Texts.{AreRefused, CheckFails, IsJob, netlist_held, recording_held}
use Rattle.cmd_phases.specs.declared.cause.Refused.{Refused}
use Rattle.cmd_phases.specs.declared.parts.Parts.{Parts}
use Rattle.report_bits.specs.Report.{report_text}
use Rattle.report_bits.specs.declared.lines.ReportLines.{ReportLines}
use Rattle.base_run.specs.Phases.{◌>>=◌, Answer, Phases, judges, text_held}
use Rattle.cmd_set.specs.Command.{Command}
use Rattle.base_shelf.specs.Shelf.{Files}
use Rattle.cmd_words.specs.Words.{GivesJob, IsCount, JobValues, job_reads, job_values}
use Rattle.cmd_words.specs.Forms as shared
use Rattle.law_model.specs.declared.limits.Limits.{Limits}
use Rattle.cmd_program.specs.Limits.{AreLimitsOf}

-- ---- words

pub record CheckValues : Type 0 where
  pub job : JobValues
  pub cert : Text
  pub limits : Limits
  pub lines : ReportLines

-- These are those of `check`, which writes no file.
pub record GivesCheck (option : Text → Option Text) (v : CheckValues) : Type 0 where
  pub job : GivesJob option v.job
  pub cert : option (codes "cert") ≡ Some v.cert
  pub limits : AreLimitsOf option v.limits
  pub lines : IsLines (option (codes "report")) v.lines

abbrev pub check_values : Check → CheckValues
check_values words = record {
  job = job_values words.job;
  cert = words.cert.now;
  limits = words.limits;
  lines = words.lines;
}

-- ---- phases

-- No file is written, and the report of the wave is printed, with the lines of its conditions.
abbrev pub check_answer : CheckValues → Parts → CheckShows → Answer
check_answer w job shows = record {
  files = [];
  printed = report_text shows.wave job.recorded.binding w.lines (forces_in shows.wave) ++ shows.listing;
}

abbrev pub checked_phases : CheckValues → Parts → Cert → Phases Answer Refused
checked_phases w job cert = do
  shows ← judges (CheckComes w.limits job cert) itself
  Phases.Finds (check_answer w job shows)

abbrev pub certified_phases : CheckValues → Parts → Phases Answer Refused
certified_phases w job = do
  cert ← certificate_phases w.cert
  checked_phases w job cert

abbrev pub check_phases : CheckValues → Phases Answer Refused
check_phases w = agreed_then w.job (certified_phases w)

-- ---- promises

-- The texts stand for a job that is repaired by a certificate.
pub record Checks (w : CheckValues) (netlist recording cert report : List ℕ) : Type 0 where
  pub job : RepairedJob w.job w.limits netlist recording
  pub fits : FitsJob job.n job.r
  -- The text stands for this one, which is accepted, whoever wrote it: its lines yield the waveform.
  pub certificate : Cert
  pub stands : IsTextOf cert certificate
  pub lines_are : job.lines ≡ lines_in certificate.entries
  pub accepted : IsAccepted (beginning w.limits job.n job.r job.replay) certificate job.waveform
  -- In form 2 there is a condition for each certain Line place, whose turns stand in the text; in form 1 there is none.
  pub conditions : List Condition
  pub conditions_are : HaveConditions certificate.form (circuit_of job) w.limits.conflicts job.waveform job.lines
      conditions
  pub stated : certificate.entries ≡ entries_by job.lines conditions
  -- What is printed is the report of that waveform, and the lines of the conditions.
  pub events : List Event
  pub are : AreForcesOf (circuit_of job) (value_in job.waveform) events
  pub report_is : report
      ≡ report_text (wave_of_job job) job.r.binding w.lines events ++ needs_lines (wave_of_job job) conditions
  -- Each of these places needs the places that its line lists.
  pub needs : EachNeeds (circuit_of job) job.waveform conditions

-- No file is written, and the report is of the certificate that its file holds.
pub record SaysCheck (files : Files) (w : CheckValues) (answer : Answer) : Type 0 where
  pub report : List ℕ
  pub answer_is : answer ≡ record { files = []; printed = report }
  pub checks : Checks w (netlist_held files w.job) (recording_held files w.job) (text_held files (w.cert ∷ [])) report

-- The texts stand for a job that agrees, and the certificate's text for one that is accepted over its replay.
pub record IsCheckable (w : CheckValues) (netlist recording cert : List ℕ) : Type 0 where
  pub n : ANetlist
  pub r : Recorded
  pub job : IsJob w.job netlist recording n r
  pub replay : HistoryView
  pub agrees : AgreesThroughout n r replay
  pub fits : length cert ≤ text_limit
  pub certificate : Cert
  pub stands : IsTextOf cert certificate
  pub waveform : List Written
  pub accepted : IsAccepted (beginning w.limits n r replay) certificate waveform

-- ---- the command

abbrev pub check : Command Refused
check = record {
  word = codes "check";
  table = shared.job (needs (codes "cert") Reads ∷ shared.conflicts ∷ shared.enumerate ∷ shared.report ∷ []);
  has_files = true;
  Values = CheckValues;
  files = λ v. v.job.netlists;
  Gives = GivesCheck;
  inputs = λ v. v.cert ∷ job_reads v.job;
  most = text_limit;
  phases = check_phases;
  InOrder = λ files v. IsCheckable v (netlist_held files v.job) (recording_held files v.job)
      (text_held files (v.cert ∷ []));
  Says = SaysCheck;
  Fails = λ files v cause. AreRefused v.job (netlist_held files v.job) (recording_held files v.job)
      (CheckFails v.limits (text_held files (v.cert ∷ []))) cause;
}
