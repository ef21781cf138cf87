-- `blame`: its words, its phases, and what it promises.
use Rattle.std.specs.Prelude.{◌∷◌, ◌≡◌, Err, List, Ok, Option, Result, [], codes, true, ℕ}
use Rattle.cmd_program.specs.Headline.{RepairedJob, wave_of_job}
use Rattle.cmd_program.specs.Repair.{FailsAsRepair, IsRepairable, RepairValues}
use Rattle.cmd_program.specs.declared.commands.blame.Blame.{Blame}
use Rattle.base_line.specs.Line.{Text}
use Rattle.cmd_phases.specs.OfListing.{TellsBlame}
use Rattle.recording_binding.specs.declared.binding.Bound.{Bound}
use Rattle.cmd_phases.specs.Phases.{agreed_then, no_cause, walk_cause}
use Rattle.cmd_phases.specs.Repair.{WalkComes, recording_limit}
use Rattle.cmd_phases.specs.Texts.{netlist_held, recording_held}
use Rattle.cmd_phases.specs.declared.cause.Refused.{Refused}
use Rattle.cmd_phases.specs.declared.parts.Parts.{Parts}
use Rattle.report_bits.specs.declared.lines.ReportLines.TheVariants as report
use Rattle.base_run.specs.Phases.{◌>>=◌, Answer, Phases, searches}
use Rattle.cmd_set.specs.Command.{Command}
use Rattle.base_shelf.specs.Shelf.{Files}
use Rattle.wave_proved.specs.Contents.{Contents}
use Rattle.cmd_words.specs.Words.{GivesJob, IsCount, JobValues, job_reads, job_values}
use Rattle.cmd_words.specs.declared.words.Form.TheVariants.{Lines}
use Rattle.cmd_words.specs.Forms as shared
use Rattle.law_model.specs.declared.limits.Limits.{Limits}
use Rattle.cmd_program.specs.Limits.{AreLimitsOf}

-- ---- words

pub record BlameValues : Type 0 where
  pub job : JobValues
  pub limits : Limits

-- These are those of `blame`, which writes no file.
pub record GivesBlame (option : Text → Option Text) (v : BlameValues) : Type 0 where
  pub job : GivesJob option v.job
  pub limits : AreLimitsOf option v.limits

abbrev pub blame_values : Blame → BlameValues
blame_values words = record { job = job_values words.job; limits = words.limits }

-- ---- phases

-- `blame` repairs as these words say, whose files aren't written.
abbrev pub repair_to_blame : BlameValues → RepairValues
repair_to_blame w = record {
  job = w.job;
  vcd = [];
  code = [];
  cert = [];
  form = Lines;
  limits = w.limits;
  lines = report.All;
}

-- No file is written, and what is printed tells what is to blame for the unknown bits of a wave.
pub record ListsBlame (bound : List Bound) (wave : Contents) (answer : Answer) : Type 0 where
  pub files_are : answer.files ≡ []
  pub tells : TellsBlame wave bound answer.printed

-- That is found; it comes to nothing else.
abbrev pub BlameComes : List Bound → Contents → Result Answer ⊥ → Type 0
BlameComes bound wave (Ok answer) = ListsBlame bound wave answer
BlameComes bound wave (Err none) = ⊥

-- What is to blame for the unknown bits is printed.
abbrev pub walk_blamed : BlameValues → Parts → Phases Answer Refused
walk_blamed w job = do
  found ← searches (WalkComes w.limits job.netlist job.recorded) walk_cause
  searches (BlameComes job.recorded.binding.bound found.wave) no_cause

abbrev pub blame_phases : BlameValues → Phases Answer Refused
blame_phases w = agreed_then w.job (walk_blamed w)

-- ---- promises

-- The texts stand for a job that is repaired, so that:
pub record Blames (w : BlameValues) (netlist recording : List ℕ) (answer : Answer) : Type 0 where
  pub job : RepairedJob w.job w.limits netlist recording
  -- No file is written. What is printed has each bound bit that is unknown at the last round of a moment once, with a
  -- source and a filling to blame for it, and no other bit; and each source once, with the number of its bits.
  pub lists : ListsBlame job.r.binding.bound (wave_of_job job) answer

abbrev pub SaysBlame : Files → BlameValues → Answer → Type 0
SaysBlame files w answer = Blames w (netlist_held files w.job) (recording_held files w.job) answer

-- ---- the command

abbrev pub blame : Command Refused
blame = record {
  word = codes "blame";
  table = shared.job (shared.conflicts ∷ shared.enumerate ∷ []);
  has_files = true;
  Values = BlameValues;
  files = λ v. v.job.netlists;
  Gives = GivesBlame;
  inputs = λ v. job_reads v.job;
  most = recording_limit;
  phases = blame_phases;
  InOrder = λ files v. IsRepairable v.job v.limits (netlist_held files v.job) (recording_held files v.job);
  Says = SaysBlame;
  Fails = λ files v cause. FailsAsRepair v.job v.limits files cause;
}
