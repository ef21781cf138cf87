-- `export`: its words, its phases, and what it promises.
use Rattle.std.specs.Prelude.{◌∷◌, ◌≡◌, Err, List, Ok, Option, Result, Some, [], codes, true, ℕ}
use Rattle.cmd_phases.specs.OfCert.{cert_of}
use Rattle.cert_writer.specs.Text.{cert_text}
use Rattle.cmd_program.specs.Free.{AreFree}
use Rattle.cmd_program.specs.Headline.{Certifies, RepairedJob, wave_of_job}
use Rattle.cmd_program.specs.Repair.{FailsAsRepair, IsRepairable, RepairValues}
use Rattle.cmd_program.specs.declared.commands.export.Export.{Export}
use Rattle.cert_export.specs.Export.{Exports}
use Rattle.base_line.specs.Line.{Text}
use Rattle.base_line.specs.Tables.{Prefix, needs}
use Rattle.cmd_phases.specs.Phases.{agreed_then, no_cause, walk_cause}
use Rattle.cmd_phases.specs.Repair.{WalkComes, recording_limit}
use Rattle.cmd_phases.specs.Texts.{netlist_held, recording_held}
use Rattle.cmd_phases.specs.declared.cause.Refused.{Refused}
use Rattle.cmd_phases.specs.declared.parts.Parts.{Parts}
use Rattle.report_bits.specs.declared.lines.ReportLines.TheVariants as report
use Rattle.base_run.specs.Phases.{◌>>=◌, Answer, Phases, searches}
use Rattle.cmd_set.specs.Command.{Command}
use Rattle.base_shelf.specs.Shelf.{Files}
use Rattle.wave_proved.specs.Contents.{Contents}
use Rattle.cmd_words.specs.Words.{GivesJob, IsCount, JobValues, job_reads, job_values}
use Rattle.cmd_words.specs.declared.words.Form.TheVariants.{Lines}
use Rattle.cmd_words.specs.Forms as shared
use Rattle.law_model.specs.declared.limits.Limits.{Limits}
use Rattle.cmd_program.specs.Limits.{AreLimitsOf}

-- ---- words

pub record ExportValues : Type 0 where
  pub job : JobValues
  pub prefix : Text
  pub limits : Limits

-- These are those of `export`, and no file that is read has a name of those that may be written.
pub record GivesExport (option : Text → Option Text) (v : ExportValues) : Type 0 where
  pub job : GivesJob option v.job
  pub prefix : option (codes "to") ≡ Some v.prefix
  pub limits : AreLimitsOf option v.limits
  pub free : AreFree v.prefix (v.job.recording ∷ v.job.netlists)

abbrev pub export_values : Export → ExportValues
export_values words = record { job = job_values words.job; prefix = words.prefix.now; limits = words.limits }

-- ---- phases

-- An export repairs as these words say, whose files aren't written.
abbrev pub repair_for : ExportValues → RepairValues
repair_for w = record {
  job = w.job;
  vcd = [];
  code = [];
  cert = [];
  form = Lines;
  limits = w.limits;
  lines = report.All;
}

-- The files of a wave are found; it comes to nothing else.
abbrev pub ExportComes : List ℕ → Contents → Result Answer ⊥ → Type 0
ExportComes prefix wave (Ok answer) = Exports prefix wave answer
ExportComes prefix wave (Err none) = ⊥

-- The certificate, the queries and the logs are written, and what is printed tells how many there are.
abbrev pub walk_exported : ExportValues → Parts → Phases Answer Refused
walk_exported w job = do
  found ← searches (WalkComes w.limits job.netlist job.recorded) walk_cause
  searches (ExportComes w.prefix found.wave) no_cause

abbrev pub export_phases : ExportValues → Phases Answer Refused
export_phases w = agreed_then w.job (walk_exported w)

-- ---- promises

-- The texts stand for a job that is repaired, so that:
pub record Exported (w : ExportValues) (netlist recording : List ℕ) (answer : Answer) : Type 0 where
  pub job : RepairedJob w.job w.limits netlist recording
  -- The certificate of these lines is accepted for the job: they yield the waveform.
  pub certifies : Certifies (repair_for w) job.n job.r job.replay job.waveform job.lines []
      (cert_text (cert_of (wave_of_job job)))
  -- It is written, and then for each line the query of its place in the waveform and the line's log; what is printed
  -- tells how many there are.
  pub exports : Exports w.prefix (wave_of_job job) answer

-- The certificate, the queries and the logs are written of the texts that the files hold.
abbrev pub SaysExport : Files → ExportValues → Answer → Type 0
SaysExport files w answer = Exported w (netlist_held files w.job) (recording_held files w.job) answer

-- ---- the command

abbrev pub export : Command Refused
export = record {
  word = codes "export";
  table = shared.job (needs (codes "to") Prefix ∷ shared.conflicts ∷ shared.enumerate ∷ []);
  has_files = true;
  Values = ExportValues;
  files = λ v. v.job.netlists;
  Gives = GivesExport;
  inputs = λ v. job_reads v.job;
  most = recording_limit;
  phases = export_phases;
  InOrder = λ files v. IsRepairable v.job v.limits (netlist_held files v.job) (recording_held files v.job);
  Says = SaysExport;
  Fails = λ files v cause. FailsAsRepair v.job v.limits files cause;
}
