-- What a job comes to: a repair, or the first place that is found otherwise.
use Rattle.std.specs.Prelude.{◌≡◌, ℕ, ◌<◌, ◌≤◌, ◌/◌, ◌%◌, Bool, true, false, List, length, Result, Ok, Err, count_by}
use Rattle.std.specs.Prelude.{slice_index}
use Rattle.design_circuit.specs.Parts.{PartsFit}
use Rattle.design_circuit.specs.Handed.{IsReplay}
use Rattle.design_circuit.specs.History.{HistoryView}
use Rattle.design_circuit.specs.Job.{job_of}
use Rattle.design_circuit.specs.declared.stim.Levels.{Levels}
use Rattle.design_circuit.specs.declared.stim.Levels.TheVariants.{Change, Hold}
use Rattle.design_circuit.specs.declared.stim.RegisterRules.{RegisterRules}
use Rattle.design_circuit.specs.declared.stim.StartRule.{StartRule}
use Rattle.design_circuit.specs.declared.stim.Stim.{Stim}
use Rattle.design_circuit.specs.declared.stim.StartRule.TheVariants.{Cold, Recorded as AsRecorded}
use Rattle.law_model.specs.declared.line.Body.{Body}
use Rattle.law_model.specs.declared.line.Body.TheVariants.{Enumerated, Refuted, Pair, Undecided}
use Rattle.law_model.specs.declared.line.Line.{Line as ALine}
use Rattle.law_model.specs.declared.limits.Limits.{Limits}
use Rattle.replay_history.specs.Fault.{IsFaultless}
use Rattle.wave_proved.specs.Contents.{Contents, IsFinished, IsWave, nothing_written}
use Rattle.wave_proved.specs.Shown.{ShowsWave}
use Rattle.wave_proved.specs.declared.advance.Optimistic.{Optimistic as FoundOtherwise}
use Rattle.law_along.specs.Along.{GoesAlong}
use Rattle.decide_repair.specs.Repaired.{IsObjection, IsOfJob}
use Rattle.cmd_job.specs.Compared.{IsRefusedReplay, job_for}
use Rattle.cmd_job.specs.Names.{net_name}
use Rattle.cmd_job.specs.Netlist.{FitsNetlist}
use Rattle.cmd_job.specs.Recorded.{FitsRecorded}
use Rattle.cmd_job.specs.declared.compare_refusal.CompareRefusal.{CompareRefusal}
use Rattle.cmd_job.specs.declared.netlist.Netlist.{Netlist as ANetlist}
use Rattle.cmd_job.specs.declared.recorded.Recorded.{Recorded}
use Rattle.cmd_job.specs.declared.rules.Rules.{Rules}
use Rattle.recording_binding.specs.declared.rule.UndrivenRule.{UndrivenRule}
use Rattle.recording_binding.specs.declared.rule.UndrivenRule.TheVariants as rule
use Rattle.cmd_words.specs.Words.{JobValues}
use Rattle.cmd_words.specs.declared.words.Levels.{Levels as NamedLevels}
use Rattle.cmd_words.specs.declared.words.Levels.TheVariants as levels
use Rattle.cmd_words.specs.declared.words.Start.{Start}
use Rattle.cmd_words.specs.declared.words.Start.TheVariants as named
use Rattle.cmd_words.specs.declared.words.Undriven.{Undriven}
use Rattle.cmd_words.specs.declared.words.Undriven.TheVariants as undriven
use Rattle.cmd_phases.specs.declared.cause.Objection.{Objection}
use Rattle.cmd_phases.specs.declared.parts.Parts.{Parts}

-- The most bytes of a netlist and of a recording.
abbrev pub netlist_limit : ℕ
netlist_limit = 67108864

abbrev pub recording_limit : ℕ
recording_limit = 268435456

-- A text has at most so many bytes, or more.
abbrev pub LengthComes : ℕ → List ℕ → Result (Unit {0}) (Unit {0}) → Type 0
LengthComes limit text (Ok short) = length text ≤ limit
LengthComes limit text (Err long) = limit < length text

-- The rules that the words name.
abbrev pub rule_of : Start → StartRule
rule_of named.Cold = Cold
rule_of named.Recorded = AsRecorded

abbrev pub levels_of : NamedLevels → Levels
levels_of levels.Change = Change
levels_of levels.Hold = Hold

abbrev pub register_rules_of : JobValues → RegisterRules
register_rules_of w = record { start = rule_of w.start; levels = levels_of w.levels }

abbrev pub undriven_rule_of : Undriven → UndrivenRule
undriven_rule_of undriven.Released = rule.Released
undriven_rule_of undriven.Recorded = rule.Recorded

abbrev pub rules_of : JobValues → Rules
rules_of w = record { registers = register_rules_of w; undriven = undriven_rule_of w.undriven }

-- A design with its order fits, and so does what was recorded of it.
pub record FitsJob (n : ANetlist) (r : Recorded) : Type 0 where
  pub netlist : FitsNetlist n
  pub recorded : FitsRecorded n.design r

abbrev pub FitsParts : Parts → Type 0
FitsParts job = FitsJob job.netlist job.recorded

-- A history is the replay of the job, each moment is settled, and the recording agrees in it.
pub record AgreesThroughout (n : ANetlist) (r : Recorded) (history : HistoryView) : Type 0 where
  pub replay : IsReplay (job_for n r) history
  pub faultless : IsFaultless (job_for n r) r.recording r.binding

-- The wave of the job with nothing written, for logs of so many clauses.
abbrev pub beginning : Limits → ANetlist → Recorded → HistoryView → Contents
beginning limits n r history = nothing_written n.design n.order r.stim history limits

-- A finished wave of a design under a stimulus, over a history.
pub record IsRepairedBy (limits : Limits) (n : ANetlist) (stim : Stim) (history : HistoryView)
    (wave : Contents) : Type 0 where
  pub of_job : IsOfJob (nothing_written n.design n.order stim history limits) wave
  pub along : GoesAlong (nothing_written n.design n.order stim history limits) wave
  pub sound : IsWave wave
  pub finished : IsFinished wave

-- It is of the job's design and stimulus, and finished.
pub record IsWaveOf (n : ANetlist) (r : Recorded) (wave : Contents) : Type 0 where
  pub design : wave.design ≡ n.design
  pub order : wave.order ≡ n.order
  pub stim : wave.stim ≡ r.stim
  pub finished : IsFinished wave

-- A line that marks its place undecided.
abbrev pub is_undecided_body : Body → Bool
is_undecided_body (Enumerated bit) = false
is_undecided_body (Refuted bit log) = false
is_undecided_body (Pair first second) = false
is_undecided_body (Undecided log) = true

abbrev pub is_undecided_line : ALine → Bool
is_undecided_line line = is_undecided_body line.body

-- What the line of a refusal has of a place that is found otherwise.
abbrev pub objection_of : ANetlist → Stim → FoundOtherwise → Objection
objection_of n stim otherwise = record {
  time = slice_index stim.times (otherwise.place.step / stim.rounds);
  round = otherwise.place.step % stim.rounds;
  name = net_name n.design otherwise.place.net;
  replayed = otherwise.replayed;
  found = otherwise.found;
  undecided = count_by is_undecided_line otherwise.lines.items;
}

-- What the search of a job finds: the replay, a finished wave over it, and the history that the wave shows.
pub record Found : Type 0 where
  pub history : HistoryView
  pub wave : Contents
  pub shown : HistoryView

pub record IsFoundRepair (limits : Limits) (n : ANetlist) (r : Recorded) (found : Found) : Type 0 where
  pub fits : FitsJob n r
  pub replay : IsReplay (job_for n r) found.history
  pub repaired : IsRepairedBy limits n r.stim found.history found.wave
  pub shows : ShowsWave found.wave found.shown

-- A place is found otherwise than a history knows it.
pub record IsObjectionBy (limits : Limits) (n : ANetlist) (stim : Stim) (history : HistoryView)
    (objection : Objection) : Type 0 where
  pub otherwise : FoundOtherwise
  pub objects : IsObjection (nothing_written n.design n.order stim history limits) otherwise
  pub is : objection ≡ objection_of n stim otherwise

-- The walk of a design under a stimulus, over a history, comes to a wave, or to an objection.
abbrev pub WaveComes : Limits → ANetlist → Stim → HistoryView → Result Contents Objection → Type 0
WaveComes limits n stim history (Ok wave) = IsRepairedBy limits n stim history wave
WaveComes limits n stim history (Err objection) = IsObjectionBy limits n stim history objection

-- A place is found otherwise than the replay knows it.
pub record IsObjectionIn (limits : Limits) (n : ANetlist) (stim : Stim) (objection : Objection) : Type 0 where
  pub history : HistoryView
  pub replay : IsReplay (job_of n.design n.order stim) history
  pub objects : IsObjectionBy limits n stim history objection

-- What the walk of a design under a stimulus finds: the replay, and a finished wave over it.
pub record Walked : Type 0 where
  pub history : HistoryView
  pub wave : Contents

pub record IsWalked (limits : Limits) (n : ANetlist) (stim : Stim) (walked : Walked) : Type 0 where
  pub fits : PartsFit n.design n.order stim
  pub replay : IsReplay (job_of n.design n.order stim) walked.history
  pub repaired : IsRepairedBy limits n stim walked.history walked.wave

-- It comes to that, or to an objection.
abbrev pub ReplayWalkComes : Limits → ANetlist → Stim → Result Walked Objection → Type 0
ReplayWalkComes limits n stim (Ok walked) = IsWalked limits n stim walked
ReplayWalkComes limits n stim (Err objection) = IsObjectionIn limits n stim objection

-- The recording agrees with the replay in every moment, each settled; or the first fault.
abbrev pub CompareComes : ANetlist → Recorded → Result (Unit {0}) CompareRefusal → Type 0
CompareComes n r (Ok agreed) = IsFaultless (job_for n r) r.recording r.binding
CompareComes n r (Err e) = IsRefusedReplay n r e

-- The search comes to a wave, or to an objection.
abbrev pub WalkComes : Limits → ANetlist → Recorded → Result Found Objection → Type 0
WalkComes limits n r (Ok found) = IsFoundRepair limits n r found
WalkComes limits n r (Err objection) = IsObjectionIn limits n r.stim objection
