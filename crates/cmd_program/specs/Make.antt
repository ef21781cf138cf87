-- `make`: its words, its phases, and what it promises.
use Rattle.std.specs.Prelude.{◌<◌, ◌∷◌, ◌≡◌, ◌≤◌, Err, List, None, Ok, Option, Result, Some, Vec, [], codes, false}
use Rattle.std.specs.Prelude.{length, ℕ}
use Rattle.std.specs.declared.alloc.Global.{Global}
use Rattle.cmd_program.specs.Headline.{RepairedJob, circuit_of, value_in, wave_of_job}
use Rattle.cmd_program.specs.Repair.{forces_in}
use Rattle.cmd_program.specs.declared.commands.make.Make.{Make}
use Rattle.design_circuit.specs.Handed.{IsReplay, shown_of}
use Rattle.design_circuit.specs.History.{HistoryView}
use Rattle.design_circuit.specs.Job.{places_of}
use Rattle.design_circuit.specs.declared.force.Event.{Event}
use Rattle.design_circuit.specs.declared.waveform.Written.{Written}
use Rattle.replay_forces.specs.ForcesOf.{AreForcesOf}
use Rattle.cmd_job.specs.Compared.{job_for}
use Rattle.cmd_job.specs.Netlist.{NetlistComes}
use Rattle.cmd_job.specs.Recorded.{RecordingComes, place_limit}
use Rattle.cmd_job.specs.declared.netlist.Netlist.{Netlist as ANetlist}
use Rattle.cmd_job.specs.declared.netlist_refusal.NetlistRefusal.{NetlistRefusal}
use Rattle.cmd_job.specs.declared.recorded.Recorded.{Recorded}
use Rattle.base_line.specs.Apart.{AreApart}
use Rattle.base_line.specs.Line.{IsNumber, Text}
use Rattle.base_line.specs.Tables.{Number, Writes, needs}
use Rattle.cmd_make.specs.Netlist.{netlist_text}
use Rattle.cmd_make.specs.Recording.{IsMadeRecording}
use Rattle.law_model.specs.Sound.{IsDecided, Sound}
use Rattle.law_model.specs.declared.line.Line.{Line as ALine}
use Rattle.law_model.specs.declared.limits.Limits.{Limits}
use Rattle.cmd_phases.specs.Phases.{compare_cause, netlist_cause, no_cause, recording_cause, scope_of, walk_cause}
use Rattle.cmd_phases.specs.Repair.{CompareComes, LengthComes, WalkComes, beginning, netlist_limit}
use Rattle.cmd_phases.specs.Repair.{recording_limit, rules_of}
use Rattle.cmd_phases.specs.Texts.{AreRefused, HasNetlist, IsJob, IsOneCause, IsRefusedNetlist, RepairFails}
use Rattle.cmd_phases.specs.declared.cause.Refused.{Refused}
use Rattle.cmd_phases.specs.declared.cause.Refused.TheVariants.{LongNetlist, LongRecording, Netlist}
use Rattle.cmd_phases.specs.Repaired.{IsObjection}
use Rattle.replay_history.specs.Fault.{IsFaultless}
use Rattle.report_bits.specs.Report.{head_text}
use Rattle.base_run.specs.Phases.{◌>>=◌, Answer, Phases, judges, searches}
use Rattle.cmd_set.specs.Command.{Command}
use Rattle.wave_proved.specs.Contents.{Contents}
use Rattle.wave_proved.specs.declared.advance.Optimistic.{Optimistic as Found}
use Rattle.cmd_words.specs.Words.{JobValues}
use Rattle.cmd_words.specs.declared.words.Levels.TheVariants.{Change}
use Rattle.cmd_words.specs.declared.words.Start.TheVariants.{Cold}
use Rattle.cmd_words.specs.declared.words.Undriven.TheVariants.{Released}

-- ---- words

pub record MakeValues : Type 0 where
  pub number : ℕ
  pub gates : ℕ
  pub netlist : Text
  pub recording : Text

-- The number of an option, which is at most so much.
abbrev pub IsNumberTo : Option Text → ℕ → ℕ → Type 0
IsNumberTo None most number = ⊥
IsNumberTo (Some text) most number = IsNumber text number × (number ≤ most)

-- Those of `make`, which reads no file: the number is below 2^64, and each file written has a name of its own.
pub record GivesMake (option : Text → Option Text) (v : MakeValues) : Type 0 where
  pub number : IsNumberTo (option (codes "number")) 18446744073709551615 v.number
  pub gates : IsNumberTo (option (codes "gates")) 100000 v.gates
  pub netlist : option (codes "netlist") ≡ Some v.netlist
  pub recording : option (codes "record") ≡ Some v.recording
  pub apart : AreApart (v.netlist ∷ v.recording ∷ []) []

abbrev pub make_values : Make → MakeValues
make_values words = record {
  number = words.number;
  gates = words.gates;
  netlist = words.netlist.now;
  recording = words.recording.now;
}

-- ---- the made job

-- Its texts, read from no file, are of the module `made`, in a scope of that name, with four rounds, a cold start, and
-- levels that decide registers by change.
abbrev pub made_job : JobValues
made_job = record {
  recording = [];
  scope = codes "made";
  top = codes "made";
  rounds = 4;
  places = place_limit;
  start = Cold;
  levels = Change;
  undriven = Released;
  netlists = [];
}

-- The limits of its decisions.
abbrev pub made_limits : Limits
made_limits = record { conflicts = 1000; enumerated = 12 }

-- The text of its netlist.
abbrev pub made_netlist : MakeValues → List ℕ
made_netlist w = netlist_text w.number w.gates

-- A text is the recording that is made of a design.
abbrev pub IsRecordingOf : MakeValues → ANetlist → List ℕ → Type 0
IsRecordingOf w n text = IsMadeRecording n.design n.order w.number w.gates text

-- It is made; it comes to nothing else.
abbrev pub MadeComes : MakeValues → ANetlist → Result (List ℕ) ⊥ → Type 0
MadeComes w n (Ok text) = IsRecordingOf w n text
MadeComes w n (Err none) = ⊥

-- ---- phases

-- The causes, and the bytes of a text that is made.
abbrev pub long_netlist_cause : Unit {0} → Refused
long_netlist_cause _ = LongNetlist

abbrev pub long_recording_cause : Unit {0} → Refused
long_recording_cause _ = LongRecording

abbrev pub bytes_in : Vec ℕ Global → List ℕ
bytes_in text = text.items

-- F and R are written in this order.
abbrev pub make_with : MakeValues → List ℕ → List ℕ → List ℕ → Answer
make_with w netlist recording printed = record {
  files = record { name = w.netlist; bytes = netlist } ∷ record { name = w.recording; bytes = recording } ∷ [];
  printed = printed;
}

-- F is the made netlist, and the first three lines of the wave's report are printed.
abbrev pub make_answer : MakeValues → List ℕ → Contents → Answer
make_answer w recording wave = make_with w (made_netlist w) recording (head_text wave (forces_in wave))

abbrev pub netlist_made : List ℕ → Phases ANetlist Refused
netlist_made text = do
  short ← judges (LengthComes netlist_limit text) long_netlist_cause
  judges (NetlistComes text made_job.top) netlist_cause

abbrev pub recording_made : MakeValues → ANetlist → Phases (List ℕ) Refused
recording_made w n = do
  text ← judges (MadeComes w n) no_cause
  short ← judges (LengthComes recording_limit text) long_recording_cause
  Phases.Finds text

abbrev pub walk_made : MakeValues → List ℕ → ANetlist → Recorded → Phases Answer Refused
walk_made w recording n r = do
  found ← searches (WalkComes made_limits n r) walk_cause
  Phases.Finds (make_answer w recording found.wave)

abbrev pub repaired_made : MakeValues → List ℕ → ANetlist → Recorded → Phases Answer Refused
repaired_made w recording n r = do
  agreed ← judges (CompareComes n r) compare_cause
  walk_made w recording n r

abbrev pub recorded_made : MakeValues → ANetlist → List ℕ → Phases Answer Refused
recorded_made w n recording = do
  r ← judges (RecordingComes recording n.design (scope_of made_job) made_job.rounds made_job.places
      (rules_of made_job)) recording_cause
  repaired_made w recording n r

abbrev pub with_recording : MakeValues → ANetlist → Phases Answer Refused
with_recording w n = do
  recording ← recording_made w n
  recorded_made w n recording

abbrev pub make_phases : MakeValues → Phases Answer Refused
make_phases w = do
  n ← netlist_made (made_netlist w)
  with_recording w n

-- ---- promises

-- The texts stand for a job that is repaired, so that:
pub record Makes (w : MakeValues) (netlist recording printed : List ℕ) : Type 0 where
  pub job : RepairedJob made_job made_limits netlist recording
  -- F is the netlist of the number, and R the recording that is made of its design.
  pub netlist_is : netlist ≡ made_netlist w
  pub made : IsRecordingOf w job.n recording
  -- What is printed tells how many places have which end, and how many forces and lines there are.
  pub events : List Event
  pub are : AreForcesOf (circuit_of job) (value_in job.waveform) events
  pub printed_is : printed ≡ head_text (wave_of_job job) events
  -- Where no place is undecided, no other waveform without undecided places is sound, whatever its lines and its limit.
  pub only : IsDecided job.waveform → (limits : Limits) (other : List Written) (more : List ALine)
      → length other ≡ places_of (circuit_of job)
      → Sound (circuit_of job) limits (shown_of (circuit_of job) job.replay) other more
      → IsDecided other → other ≡ job.waveform

-- F and R are written in this order, and what is printed is of the job that they stand for.
pub record SaysMake (w : MakeValues) (answer : Answer) : Type 0 where
  pub netlist : List ℕ
  pub recording : List ℕ
  pub printed : List ℕ
  pub answer_is : answer ≡ make_with w netlist recording printed
  pub makes : Makes w netlist recording printed

-- The made netlist and the recording made of its design stand for a job that agrees; no place is found otherwise.
pub record IsMakeable (w : MakeValues) : Type 0 where
  pub n : ANetlist
  pub r : Recorded
  pub recording : List ℕ
  pub made : IsRecordingOf w n recording
  pub job : IsJob made_job (made_netlist w) recording n r
  pub faultless : IsFaultless (job_for n r) r.recording r.binding
  pub none : (history : HistoryView) (found : Found) → IsReplay (job_for n r) history
      → IsObjection (beginning made_limits n r history) found → ⊥

-- A text is the recording that is made of the design that the made netlist stands for.
pub record IsMadeOf (w : MakeValues) (recording : List ℕ) : Type 0 where
  pub n : ANetlist
  pub netlist_is : HasNetlist made_job (made_netlist w) n
  pub made : IsRecordingOf w n recording

-- `make`: the made netlist is too long, or stands for no design; or the recording that is made of its design is refused
-- with it, as a repair would refuse them.
pub data IsMadeRefused (w : MakeValues) : Refused → Type 0 where
  long_netlist : netlist_limit < length (made_netlist w) → IsMadeRefused w LongNetlist
  netlist_fails : {e : NetlistRefusal} → IsRefusedNetlist made_job (made_netlist w) e → IsMadeRefused w (Netlist e)
  recording_fails : {cause : Refused} → (recording : List ℕ) → IsMadeOf w recording
      → AreRefused made_job (made_netlist w) recording (RepairFails made_limits) cause → IsMadeRefused w cause

-- So it is for a made job, whose recording is one.
abbrev pub IsOneMade : MakeValues → Refused → Type 0
IsOneMade w cause = (recording : List ℕ) → IsMadeOf w recording → IsOneCause made_job (made_netlist w) recording cause

-- So they are refused; and a place that is found otherwise without an undecided line before it is the one of the job.
pub record FailsMake (w : MakeValues) (cause : Refused) : Type 0 where
  pub refused : IsMadeRefused w cause
  pub one : IsOneMade w cause

-- ---- the command

abbrev pub make : Command Refused
make = record {
  word = codes "make";
  table = needs (codes "number") (Number 0 18446744073709551615) ∷ needs (codes "gates") (Number 0 100000)
      ∷ needs (codes "netlist") Writes ∷ needs (codes "record") Writes ∷ [];
  has_files = false;
  Values = MakeValues;
  files = λ v. [];
  Gives = GivesMake;
  inputs = λ v. [];
  most = recording_limit;
  phases = make_phases;
  InOrder = λ files v. IsMakeable v;
  Says = λ files v answer. SaysMake v answer;
  Fails = λ files v cause. FailsMake v cause;
}
