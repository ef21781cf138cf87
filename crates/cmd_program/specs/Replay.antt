-- `replay`: its words, its phases, and what it promises.
use Rattle.std.specs.Prelude.{◌∷◌, ◌≡◌, ◌≤◌, List, Option, Some, [], codes, length, true, ℕ}
use Rattle.cmd_program.specs.declared.commands.replay.Replay.{Replay}
use Rattle.replay_code.specs.Says.{CodeSays}
use Rattle.design_circuit.specs.History.{HistoryView}
use Rattle.design_circuit.specs.declared.force.Event.{Event}
use Rattle.cmd_job.specs.declared.netlist.Netlist.{Netlist as ANetlist}
use Rattle.cmd_job.specs.declared.recorded.Recorded.{Recorded}
use Rattle.base_line.specs.Apart.{AreApart}
use Rattle.base_line.specs.Line.{Text}
use Rattle.base_line.specs.Tables.{Reads, Writes, needs}
use Rattle.recording_writer.specs.Text.{vcd_text}
use Rattle.cmd_phases.specs.Code.{ForcedComes, IsForced, code_in, moments_line, text_limit}
use Rattle.cmd_phases.specs.Phases.{code_phases, job_phases, no_cause, parts, scope_of}
use Rattle.cmd_phases.specs.Texts.{AreRefused, CodeFails, IsJob, netlist_held, recording_held}
use Rattle.cmd_phases.specs.declared.cause.Refused.{Refused}
use Rattle.cmd_phases.specs.declared.parts.Parts.{Parts}
use Rattle.base_run.specs.Phases.{◌>>=◌, Answer, Phases, searches, text_held}
use Rattle.cmd_set.specs.Command.{Command}
use Rattle.base_shelf.specs.Shelf.{Files}
use Rattle.cmd_words.specs.Words.{GivesJob, JobValues, job_reads, job_values}
use Rattle.cmd_words.specs.Forms as shared

-- ---- words

pub record ReplayValues : Type 0 where
  pub job : JobValues
  pub code : Text
  pub vcd : Text

-- These are those of `replay`, and the file that is written has another name than each that is read.
pub record GivesReplay (option : Text → Option Text) (v : ReplayValues) : Type 0 where
  pub job : GivesJob option v.job
  pub code : option (codes "code") ≡ Some v.code
  pub vcd : option (codes "vcd") ≡ Some v.vcd
  pub apart : AreApart (v.vcd ∷ []) (v.job.recording ∷ v.code ∷ v.job.netlists)

abbrev pub replay_values : Replay → ReplayValues
replay_values words = record { job = job_values words.job; code = words.code.now; vcd = words.vcd.now }

-- ---- phases

-- V is the text of what the replay under the code shows.
abbrev pub replay_answer : ReplayValues → Parts → HistoryView → Answer
replay_answer w job history = record {
  files = record {
    name = w.vcd;
    bytes = vcd_text job.netlist.design job.recorded.binding job.recorded.stim history;
  } ∷ [];
  printed = moments_line job.recorded.stim;
}

abbrev pub forced_phases : ReplayValues → Parts → List Event → Phases Answer Refused
forced_phases w job forces = do
  history ← searches (ForcedComes job forces) no_cause
  Phases.Finds (replay_answer w job history)

abbrev pub coded_phases : ReplayValues → Parts → Phases Answer Refused
coded_phases w job = do
  forces ← code_phases w.code w.job job
  forced_phases w job forces

abbrev pub replay_phases : ReplayValues → Phases Answer Refused
replay_phases w = do
  job ← job_phases w.job
  coded_phases w job

-- ---- promises

-- The texts stand for a job, whose recording need not agree with its replay.
pub record Replays (w : ReplayValues) (netlist recording code vcd printed : List ℕ) : Type 0 where
  pub n : ANetlist
  pub r : Recorded
  pub job : IsJob w.job netlist recording n r
  -- The code says these forces, and a history is the replay under them.
  pub events : List Event
  pub says : CodeSays (code_in (parts n r) code (scope_of w.job)) events
  pub history : HistoryView
  pub forced : IsForced (parts n r) events history
  -- V is the text of what that replay shows, and the number of moments is printed.
  pub vcd_is : vcd ≡ vcd_text n.design r.binding r.stim history
  pub printed_is : printed ≡ moments_line r.stim

-- V is written, and it is of the replay under the code that its file holds.
pub record SaysReplay (files : Files) (w : ReplayValues) (answer : Answer) : Type 0 where
  pub vcd : List ℕ
  pub printed : List ℕ
  pub answer_is : answer ≡ record { files = record { name = w.vcd; bytes = vcd } ∷ []; printed = printed }
  pub replays : Replays w (netlist_held files w.job) (recording_held files w.job) (text_held files (w.code ∷ []))
      vcd printed

-- The texts stand for a job, whether its recording agrees or not, and the code's text says forces.
pub record IsReplayable (w : ReplayValues) (netlist recording code : List ℕ) : Type 0 where
  pub n : ANetlist
  pub r : Recorded
  pub job : IsJob w.job netlist recording n r
  pub fits : length code ≤ text_limit
  pub events : List Event
  pub says : CodeSays (code_in (parts n r) code (scope_of w.job)) events

-- ---- the command

abbrev pub replay : Command Refused
replay = record {
  word = codes "replay";
  table = shared.job (needs (codes "code") Reads ∷ needs (codes "vcd") Writes ∷ []);
  has_files = true;
  Values = ReplayValues;
  files = λ v. v.job.netlists;
  Gives = GivesReplay;
  inputs = λ v. v.code ∷ job_reads v.job;
  most = text_limit;
  phases = replay_phases;
  InOrder = λ files v. IsReplayable v (netlist_held files v.job) (recording_held files v.job)
      (text_held files (v.code ∷ []));
  Says = SaysReplay;
  Fails = λ files v cause. AreRefused v.job (netlist_held files v.job) (recording_held files v.job)
      (CodeFails (text_held files (v.code ∷ [])) (scope_of v.job)) cause;
}
