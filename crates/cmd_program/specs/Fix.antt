-- `fix`: its words, its phases, and what it promises.
use Rattle.std.specs.Prelude.{◌∷◌, ◌≡◌, List, Option, Some, [], codes, length, map, true, ℕ}
use Rattle.cmd_program.specs.declared.commands.fix.Fix.{Fix}
use Rattle.design_circuit.specs.Handed.{IsReplay, shown_of}
use Rattle.design_circuit.specs.History.{HistoryView}
use Rattle.design_circuit.specs.Job.{job_of, places_of}
use Rattle.design_circuit.specs.declared.stim.Stim.{Stim}
use Rattle.design_circuit.specs.declared.waveform.Written.{Written}
use Rattle.report_fix.specs.Started.{IsStarted}
use Rattle.cmd_job.specs.Compared.{job_for}
use Rattle.cmd_job.specs.declared.netlist.Netlist.{Netlist as ANetlist}
use Rattle.cmd_job.specs.declared.recorded.Recorded.{Recorded}
use Rattle.base_line.specs.Line.{Text, pieces_of}
use Rattle.base_line.specs.Tables.{Sets, needs}
use Rattle.cmd_phases.specs.OfListing.{fix_text}
use Rattle.law_model.specs.Growth.{Holds}
use Rattle.law_model.specs.declared.line.Line.{Line as ALine}
use Rattle.law_model.specs.declared.limits.Limits.{Limits}
use Rattle.cmd_phases.specs.Phases.{agreed_then, start_cause, walk_cause}
use Rattle.cmd_phases.specs.Repair.{AgreesThroughout, IsObjectionIn, ReplayWalkComes, recording_limit}
use Rattle.cmd_phases.specs.Sets.{StartsCome, piece_text, sets_of}
use Rattle.cmd_phases.specs.Texts.{AreRefused, FixFails, IfOptimistic, IsJob, IsOneOfWalks, netlist_held}
use Rattle.cmd_phases.specs.Texts.{recording_held}
use Rattle.cmd_phases.specs.declared.cause.Objection.{Objection}
use Rattle.cmd_phases.specs.declared.cause.Refused.{Refused}
use Rattle.cmd_phases.specs.declared.parts.Parts.{Parts}
use Rattle.replay_history.specs.Fault.{IsFaultless}
use Rattle.base_run.specs.Phases.{◌>>=◌, Answer, Phases, judges, searches}
use Rattle.cmd_set.specs.Command.{Command}
use Rattle.base_shelf.specs.Shelf.{Files}
use Rattle.wave_proved.specs.Contents.{Contents}
use Rattle.cmd_words.specs.Words.{GivesJob, IsCount, JobValues, job_reads, job_values}
use Rattle.cmd_words.specs.Forms as shared
use Rattle.cmd_program.specs.Limits.{AreLimitsOf}

-- ---- words

pub record FixValues : Type 0 where
  pub job : JobValues
  pub sets : Text
  pub limits : Limits

-- These are those of `fix`, which writes no file.
pub record GivesFix (option : Text → Option Text) (v : FixValues) : Type 0 where
  pub job : GivesJob option v.job
  pub sets : option (codes "set") ≡ Some v.sets
  pub limits : AreLimitsOf option v.limits

abbrev pub fix_values : Fix → FixValues
fix_values words = record { job = job_values words.job; sets = words.sets.now; limits = words.limits }

-- ---- phases

-- No file is written, and what the starts make known is printed, of so many as are set.
abbrev pub fix_answer : FixValues → Recorded → Contents → Contents → Answer
fix_answer w r before after =
    record { files = []; printed = fix_text (length (sets_of w.sets)) before after r.binding }

abbrev pub walk_set : FixValues → ANetlist → Recorded → Stim → Contents → Phases Answer Refused
walk_set w n r stim before = do
  after ← searches (ReplayWalkComes w.limits n stim) walk_cause
  Phases.Finds (fix_answer w r before after.wave)

abbrev pub walk_fixed : FixValues → ANetlist → Recorded → Stim → Phases Answer Refused
walk_fixed w n r stim = do
  before ← searches (ReplayWalkComes w.limits n r.stim) walk_cause
  walk_set w n r stim before.wave

abbrev pub set_phases : FixValues → Parts → Phases Answer Refused
set_phases w job = do
  stim ← judges (StartsCome job.netlist job.recorded.stim (sets_of w.sets)) start_cause
  walk_fixed w job.netlist job.recorded stim

abbrev pub fix_phases : FixValues → Phases Answer Refused
fix_phases w = agreed_then w.job (set_phases w)

-- ---- promises

-- The wave of a design under a stimulus, over a history, with what is written and the lines.
abbrev pub wave_under : ANetlist → Stim → HistoryView → Limits → List Written → List ALine → Contents
wave_under n stim history limits waveform lines = record {
  design = n.design;
  order = n.order;
  stim = stim;
  history = history;
  limits = limits;
  written = waveform;
  lines = lines;
}

-- A history is the replay of a design under a stimulus; and there are a waveform of all its places and lines that yield
-- it, and it is sound for the replay.
pub record HasWave (limits : Limits) (n : ANetlist) (stim : Stim) : Type 0 where
  pub history : HistoryView
  pub replay : IsReplay (job_of n.design n.order stim) history
  pub waveform : List Written
  pub lines : List ALine
  pub whole : length waveform ≡ places_of (job_of n.design n.order stim)
  pub holds : Holds (job_of n.design n.order stim) limits (shown_of (job_of n.design n.order stim) history)
      waveform lines

abbrev pub wave_in : (limits : Limits) (n : ANetlist) (stim : Stim) → HasWave limits n stim → Contents
wave_in limits n stim has = wave_under n stim has.history limits has.waveform has.lines

-- The texts stand for a job whose recording agrees with its replay.
pub record Fixes (w : FixValues) (netlist recording : List ℕ) (answer : Answer) : Type 0 where
  pub n : ANetlist
  pub r : Recorded
  pub job : IsJob w.job netlist recording n r
  pub before : HasWave w.limits n r.stim
  pub agrees : AgreesThroughout n r before.history
  -- The list is names and bits, each `NAME=B`, joined by commas. Each is the written name of a register whose start is
  -- unknown, no name comes twice, and under the second stimulus these start with their bits, and all else is equal.
  pub list_is : pieces_of 44 w.sets ≡ map piece_text (sets_of w.sets)
  pub stim : Stim
  pub started : IsStarted n.design r.stim (sets_of w.sets) stim
  -- It has a waveform too, for a replay of its own.
  pub after : HasWave w.limits n stim
  -- No file is written. What is printed has each bound bit at the last round of a moment that is certain in the second
  -- waveform and not in the first, with its new value, and each that was certain in the first and isn't with that value
  -- in the second, with its old one.
  pub files_are : answer.files ≡ []
  pub printed_is : answer.printed
      ≡ fix_text (length (sets_of w.sets)) (wave_in w.limits n r.stim before) (wave_in w.limits n stim after)
      r.binding

-- No file is written, and what is printed is of the texts that the files hold.
abbrev pub SaysFix : Files → FixValues → Answer → Type 0
SaysFix files w answer = Fixes w (netlist_held files w.job) (recording_held files w.job) answer

-- The texts stand for a job that agrees, its starts can be set, and no place is found otherwise under the recorded
-- starts, nor under the set ones.
pub record IsFixable (w : FixValues) (netlist recording : List ℕ) : Type 0 where
  pub n : ANetlist
  pub r : Recorded
  pub job : IsJob w.job netlist recording n r
  pub faultless : IsFaultless (job_for n r) r.recording r.binding
  pub stim : Stim
  pub started : IsStarted n.design r.stim (sets_of w.sets) stim
  pub none : (objection : Objection) → IsObjectionIn w.limits n r.stim objection → ⊥
  pub none_set : (objection : Objection) → IsObjectionIn w.limits n stim objection → ⊥

-- What the texts are refused for; and a place that is found otherwise without an undecided line before it is the one of
-- the recorded starts, or else of the set ones.
pub record FailsFix (files : Files) (w : FixValues) (cause : Refused) : Type 0 where
  pub refused : AreRefused w.job (netlist_held files w.job) (recording_held files w.job)
      (FixFails w.limits (sets_of w.sets)) cause
  pub one : IfOptimistic
      (IsOneOfWalks w.limits (sets_of w.sets) w.job (netlist_held files w.job) (recording_held files w.job)) cause

-- ---- the command

abbrev pub fix : Command Refused
fix = record {
  word = codes "fix";
  table = shared.job (needs (codes "set") Sets ∷ shared.conflicts ∷ shared.enumerate ∷ []);
  has_files = true;
  Values = FixValues;
  files = λ v. v.job.netlists;
  Gives = GivesFix;
  inputs = λ v. job_reads v.job;
  most = recording_limit;
  phases = fix_phases;
  InOrder = λ files v. IsFixable v (netlist_held files v.job) (recording_held files v.job);
  Says = SaysFix;
  Fails = λ files v cause. FailsFix files v cause;
}
