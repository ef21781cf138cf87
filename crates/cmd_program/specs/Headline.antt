-- What a repair promises, a field a sentence.
use Rattle.std.specs.Prelude.{◌++◌, ◌<◌, ◌∷◌, ◌≡◌, ◌≢◌, Bool, Contains, List, [], codes, length, slice_index, true, ℕ}
use Rattle.design_cell.specs.Value.{IsKnown, bit_value, is_unknown}
use Rattle.design_cell.specs.declared.value.Value.{Value}
use Rattle.cmd_phases.specs.OfCert.{IsAccepted}
use Rattle.cert_writer.specs.Wrong.{IsTextOf}
use Rattle.cmd_program.specs.Conditions.{Condition, HaveConditions, cert_by, needs_lines}
use Rattle.cmd_program.specs.Needs.{EachNeeds}
use Rattle.cmd_program.specs.Repair.{FailsAsRepair, GivesRepair, IsRepairable, RepairValues, answer_with, repair_phases}
use Rattle.replay_code.specs.Says.{CodeSays}
use Rattle.replay_code.specs.Written.{code_text}
use Rattle.design_circuit.specs.Handed.{shown_of}
use Rattle.design_circuit.specs.History.{HistoryView}
use Rattle.design_circuit.specs.Job.{Job, at, places_of}
use Rattle.design_circuit.specs.Settled.{last_step}
use Rattle.design_circuit.specs.Waveform.{Settles, certain, written_at}
use Rattle.design_circuit.specs.declared.force.Event.{Event}
use Rattle.design_circuit.specs.declared.waveform.Mark.TheVariants.{Undecided}
use Rattle.design_circuit.specs.declared.waveform.Written.{Written}
use Rattle.replay_forces.specs.ForcesOf.{AreForcesOf}
use Rattle.cmd_job.specs.Compared.{job_for}
use Rattle.cmd_job.specs.declared.netlist.Netlist.{Netlist as ANetlist}
use Rattle.cmd_job.specs.declared.recorded.Recorded.{Recorded}
use Rattle.base_line.specs.Tables.{Number, Writes, needs, takes}
use Rattle.recording_binding.specs.declared.binding.Bound.{Bound}
use Rattle.law_model.specs.Growth.{Holds}
use Rattle.law_model.specs.Line.{GivesBoth}
use Rattle.law_model.specs.Sound.{HasLicence, IsDecided, Sound}
use Rattle.law_model.specs.Stated.{stated}
use Rattle.law_model.specs.Yields.{Yields}
use Rattle.law_model.specs.declared.line.Line.{Line as ALine}
use Rattle.law_model.specs.declared.limits.Limits.{Limits}
use Rattle.recording_writer.specs.Text.{vcd_text}
use Rattle.cmd_phases.specs.Certificate.{form_of}
use Rattle.cmd_phases.specs.Code.{IsForced, code_in}
use Rattle.cmd_phases.specs.Phases.{parts, scope_of}
use Rattle.cmd_phases.specs.Repair.{AgreesThroughout, FitsJob, beginning, recording_limit}
use Rattle.cmd_phases.specs.Texts.{IsJob, netlist_held, recording_held}
use Rattle.cmd_phases.specs.declared.cause.Refused.{Refused}
use Rattle.report_bits.specs.Report.{report_text}
use Rattle.base_run.specs.Phases.{Answer}
use Rattle.cmd_set.specs.Command.{Command}
use Rattle.base_shelf.specs.Shelf.{Files}
use Rattle.recording_reader.specs.Recording.{value_at}
use Rattle.wave_proved.specs.Contents.{Contents}
use Rattle.cmd_words.specs.Words.{JobValues, job_reads}
use Rattle.cmd_words.specs.Forms as shared

-- A bit of a bound variable in a moment, and the place that shows it: its net at the moment's last step.
pub record IsBit (n : ANetlist) (r : Recorded) (moment : ℕ) (b : Bound) (bit : ℕ) : Type 0 where
  pub moment_is : moment < (job_for n r).moments
  pub variable : Contains r.binding.bound b
  pub within : bit < length b.bits

abbrev pub place_of_bit : ANetlist → Recorded → ℕ → Bound → ℕ → ℕ
place_of_bit n r moment b bit = at (job_for n r) (last_step (job_for n r) moment) (slice_index b.bits bit)

-- For every bit of every bound variable in every moment.
abbrev pub ForBits : ANetlist → Recorded → (ℕ → Value → Type 0) → Type 0
ForBits n r Holds = (moment : ℕ) (b : Bound) (bit : ℕ) → IsBit n r moment b bit
    → Holds (place_of_bit n r moment b bit) (value_at r.recording b.variable bit moment)

-- The history that V shows has at each place what the waveform has.
abbrev pub ShowsWaveform : Job → List Written → HistoryView → Type 0
ShowsWaveform j waveform history =
    (place : ℕ) → place < places_of j → shown_of j history place ≡ (written_at waveform place).value

-- The wave of a job with what is written and the lines.
abbrev pub wave_of : ANetlist → Recorded → HistoryView → Limits → List Written → List ALine → Contents
wave_of n r replay limits waveform lines = record {
  design = n.design;
  order = n.order;
  stim = r.stim;
  history = replay;
  limits = limits;
  written = waveform;
  lines = lines;
}

-- The value that a waveform has at each place.
abbrev pub value_in : List Written → ℕ → Value
value_in waveform place = (written_at waveform place).value

-- C is code of the job's nets: the text of the forces of what the waveform has. It says these; there is a replay under
-- them, and in each every place shows what the waveform has there; the text of that replay is V.
pub record IsForceCode (w : RepairValues) (n : ANetlist) (r : Recorded) (waveform : List Written)
    (vcd code : List ℕ) : Type 0 where
  pub events : List Event
  pub are : AreForcesOf (job_for n r) (value_in waveform) events
  pub text_is : code ≡ code_text n.design r.stim (scope_of w.job) events
  pub says : CodeSays (code_in (parts n r) code (scope_of w.job)) events
  pub there : (history : HistoryView) × IsForced (parts n r) events history
  pub shown : (history : HistoryView) → IsForced (parts n r) events history
      → ShowsWaveform (job_for n r) waveform history
  pub replayed : (history : HistoryView) → IsForced (parts n r) events history
      → vcd_text n.design r.binding r.stim history ≡ vcd

-- X stands for the certificate of the form that the words name, of the waveform's lines and of conditions, and that is
-- accepted for the job: it yields the waveform.
pub record Certifies (w : RepairValues) (n : ANetlist) (r : Recorded) (replay : HistoryView) (waveform : List Written)
    (lines : List ALine) (conditions : List Condition) (cert : List ℕ) : Type 0 where
  pub stands : IsTextOf cert
      (cert_by (form_of w.form) (wave_of n r replay w.limits waveform lines) conditions)
  pub accepted : IsAccepted (beginning w.limits n r replay)
      (cert_by (form_of w.form) (wave_of n r replay w.limits waveform lines) conditions) waveform
  -- The lines yield no other waveform of all places.
  pub one : (other : List Written) → length other ≡ places_of (job_for n r)
      → Yields (job_for n r) w.limits (shown_of (job_for n r) replay) other lines → other ≡ waveform

-- The texts stand for a job whose recording agrees with its replay; there are a waveform of all its places and lines:
-- the waveform is sound for the replay, and the lines yield it.
pub record RepairedJob (w : JobValues) (limits : Limits) (netlist recording : List ℕ) : Type 0 where
  pub n : ANetlist
  pub r : Recorded
  pub is : IsJob w netlist recording n r
  pub replay : HistoryView
  pub agrees : AgreesThroughout n r replay
  pub waveform : List Written
  pub lines : List ALine
  pub whole : length waveform ≡ places_of (job_for n r)
  pub holds : Holds (job_for n r) limits (shown_of (job_for n r) replay) waveform lines

-- Its circuit, and its wave.
abbrev pub circuit_of : {w : JobValues} {limits : Limits} {netlist recording : List ℕ}
    → RepairedJob w limits netlist recording → Job
circuit_of job = job_for job.n job.r

abbrev pub wave_of_job : {w : JobValues} {limits : Limits} {netlist recording : List ℕ}
    → RepairedJob w limits netlist recording → Contents
wave_of_job {w} {limits} job = wave_of job.n job.r job.replay limits job.waveform job.lines

-- The texts stand for a job that is repaired, so that:
pub record Headline (w : RepairValues) (netlist recording : List ℕ) (vcd code cert report : List ℕ) : Type 0 where
  pub job : RepairedJob w.job w.limits netlist recording
  pub fits : FitsJob job.n job.r
  -- V is the text of what the waveform shows.
  pub shown : HistoryView
  pub shows : ShowsWaveform (circuit_of job) job.waveform shown
  pub vcd_is : vcd ≡ vcd_text job.n.design job.r.binding job.r.stim shown
  -- Replaying the netlist with the code C writes V.
  pub forces : IsForceCode w job.n job.r job.waveform vcd code
  -- In form 2 there is a condition for each certain Line place, in form 1 there is none.
  pub conditions : List Condition
  pub conditions_are : HaveConditions (form_of w.form) (circuit_of job) w.limits.conflicts job.waveform job.lines
      conditions
  -- The certificate X names the waveform: it is the one that its lines yield. It has the turns of the conditions.
  pub certifies : Certifies w job.n job.r job.replay job.waveform job.lines conditions cert
  -- The report tells how many places have which end, and what became of each recorded bit that is x or z, in each
  -- moment or where it is told anew, as the words ask; and it has the lines of the conditions.
  pub report_is : report ≡ report_text (wave_of_job job) job.r.binding w.lines forces.events
      ++ needs_lines (wave_of_job job) conditions
  -- Each of these places needs the places that its line lists.
  pub needs : EachNeeds (circuit_of job) job.waveform conditions
  -- Each bit that V shows known, its search ended, has that value in the two-valued circuit under every filling.
  pub known : ForBits job.n job.r (λ place recorded. (bit : Bool)
      → shown_of (circuit_of job) shown place ≡ bit_value bit
      → (written_at job.waveform place).mark ≢ Undecided → Settles (circuit_of job) job.waveform place bit)
  -- Each bit that V shows unknown, its search ended, has two fillings that are listed, in a line or by a class: the
  -- first gives 0, the second 1.
  pub unknown : ForBits job.n job.r (λ place recorded. is_unknown (shown_of (circuit_of job) shown place) ≡ true
      → (written_at job.waveform place).mark ≢ Undecided
      → GivesBoth (circuit_of job) job.waveform place (stated (circuit_of job) (certain job.waveform) job.lines place))
  -- Each other bit is marked undecided, with its licence: over 12 sources, and a log of the words' number of clauses.
  pub undecided : ForBits job.n job.r (λ place recorded. (written_at job.waveform place).mark ≡ Undecided
      → HasLicence (circuit_of job) w.limits job.waveform job.lines place)
  -- The bits that the recording knows stand.
  pub stand : ForBits job.n job.r (λ place recorded. IsKnown recorded
      → shown_of (circuit_of job) shown place ≡ recorded)
  -- Where no place is undecided, no other waveform without undecided places is sound, whatever its lines and its limit.
  pub only : IsDecided job.waveform → (limits : Limits) (other : List Written) (more : List ALine)
      → length other ≡ places_of (circuit_of job)
      → Sound (circuit_of job) limits (shown_of (circuit_of job) job.replay) other more
      → IsDecided other → other ≡ job.waveform

-- V, C and X are written in this order and the report printed; of them and the files' texts the headline holds.
pub record SaysRepair (files : Files) (w : RepairValues) (answer : Answer) : Type 0 where
  pub vcd : List ℕ
  pub code : List ℕ
  pub cert : List ℕ
  pub report : List ℕ
  pub answer_is : answer ≡ answer_with w vcd code cert report
  pub headline : Headline w (netlist_held files w.job) (recording_held files w.job) vcd code cert report

-- ---- the command

abbrev pub repair : Command Refused
repair = record {
  word = codes "repair";
  table = shared.job (needs (codes "vcd") Writes ∷ needs (codes "code") Writes ∷ needs (codes "cert") Writes
      ∷ takes (codes "form") (Number 1 2) ∷ shared.conflicts ∷ shared.enumerate ∷ shared.report ∷ []);
  has_files = true;
  Values = RepairValues;
  files = λ v. v.job.netlists;
  Gives = GivesRepair;
  inputs = λ v. job_reads v.job;
  most = recording_limit;
  phases = repair_phases;
  InOrder = λ files v. IsRepairable v.job v.limits (netlist_held files v.job) (recording_held files v.job);
  Says = SaysRepair;
  Fails = λ files v cause. FailsAsRepair v.job v.limits files cause;
}
