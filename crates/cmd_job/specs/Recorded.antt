-- What a recording's text comes to for a design: a recording whose variables are bound, and the stimulus that they
-- give; or the first refusal.
use Rattle.std.specs.Prelude.{◌≡◌, ℕ, ◌^◌, ◌<◌, ◌≤◌, List, Option, Some, Result, Ok, Err, length, All}
use Rattle.recording_reader.specs.Faults.{FirstFault, Says}
use Rattle.recording_reader.specs.Recording.{Recording}
use Rattle.recording_reader.specs.RecordingFault.{fault_of}
use Rattle.recording_reader.specs.declared.fault.RecordingFault.{RecordingFault}
use Rattle.recording_reader.specs.declared.refusal.VcdErr.{VcdErr}
use Rattle.design_circuit.specs.Stim.{FitsStim}
use Rattle.design_circuit.specs.declared.design.Design.{Design}
use Rattle.design_circuit.specs.declared.stim.Stim.{Stim}
use Rattle.recording_binding.specs.Binding.{FitsBinding}
use Rattle.recording_binding.specs.Bounds.{IsOf}
use Rattle.recording_binding.specs.Holding.{held_in}
use Rattle.recording_binding.specs.JobDesign.{holder_by, job_design, with_inputs}
use Rattle.recording_binding.specs.Refusal as bind
use Rattle.recording_binding.specs.Naming.{Texts}
use Rattle.recording_binding.specs.StimOf.{IsStimOf}
use Rattle.recording_binding.specs.declared.binding.Binding.{Binding}
use Rattle.recording_binding.specs.declared.binding.Bound.{Bound}
use Rattle.recording_binding.specs.declared.inputs.Holder.{Holder}
use Rattle.recording_binding.specs.declared.refusal.BindErr.{BindErr}
use Rattle.recording_binding.specs.declared.refusal.BindErr.TheVariants as cause
use Rattle.recording_binding.specs.declared.rule.UndrivenRule.{UndrivenRule}
use Rattle.recording_binding.specs.declared.rule.UndrivenRule.TheVariants as undriven
use Rattle.cmd_job.specs.Names.{IsVariableName, dotted, net_name}
use Rattle.cmd_job.specs.declared.netlist.Netlist.{Netlist}
use Rattle.cmd_job.specs.declared.recorded.Recorded.{Recorded}
use Rattle.cmd_job.specs.declared.recording_refusal.RecordingErr.{RecordingErr}
use Rattle.cmd_job.specs.declared.recording_refusal.RecordingErr.TheVariants.{Refused, Memory}
use Rattle.cmd_job.specs.declared.recording_refusal.RecordingRefusal.{RecordingRefusal}
use Rattle.cmd_job.specs.declared.recording_refusal.RecordingRefusal.TheVariants.{Grammar, NoScope, RangeDiffers}
use Rattle.cmd_job.specs.declared.recording_refusal.RecordingRefusal.TheVariants.{MissingInput, TooLarge}
use Rattle.cmd_job.specs.declared.rules.Rules.{Rules}

-- The most places of a job where nothing else is said: nets by moments by rounds.
abbrev pub place_limit : ℕ
place_limit = 2 ^ 27

-- A stimulus of a job's design, by what holds each net of the netlist's.
abbrev pub IsJobStim : Design → Recording → Binding → ℕ → Rules → Stim → Type 0
IsJobStim design recording binding rounds rules stim =
    IsStimOf (job_design rules.undriven design binding.bound) recording (holder_by rules.undriven design binding.bound)
    rounds rules.registers stim

-- The text says a recording, its variables are bound for at most so many places, and this is the stimulus that they
-- give by the rules.
pub record IsRecorded (text : List ℕ) (design : Design) (scope : Texts) (rounds most : ℕ)
    (rules : Rules) (r : Recorded) : Type 0 where
  pub says : Says text r.recording
  pub bound : bind.IsBinding design r.recording scope rounds most r.binding
  pub stim : IsJobStim design r.recording r.binding rounds rules r.stim

-- The netlist of a job has the job's design in place of its text's, and the same order.
abbrev pub job_netlist : UndrivenRule → Netlist → List Bound → Netlist
job_netlist undriven.Released n bound = n
job_netlist undriven.Recorded n bound =
    record { design = job_design undriven.Recorded n.design bound; order = n.order }

-- the same by a list of what holds each net
abbrev pub netlist_by : UndrivenRule → List (Option Holder) → Netlist → Netlist
netlist_by undriven.Released holders n = n
netlist_by undriven.Recorded holders n = record { design = with_inputs (held_in holders) n.design; order = n.order }

-- The first fault of the text.
pub record IsFaulty (text : List ℕ) (fault : RecordingFault) : Type 0 where
  pub cause : VcdErr
  pub first : FirstFault text cause
  pub says : fault_of cause ≡ Some fault

-- The refusal names the variable with a number.
pub record ReportsVariable (recording : Recording) (scope : Texts) (number : ℕ)
    (refusal : RecordingRefusal) : Type 0 where
  pub name : List ℕ
  pub is : IsVariableName scope recording number name
  pub reports : refusal ≡ RangeDiffers name

-- The refusal names what the cause numbers.
abbrev pub Reports : Design → Recording → Texts → BindErr → RecordingRefusal → Type 0
Reports design recording scope cause.NoScope refusal = refusal ≡ NoScope (dotted scope)
Reports design recording scope (cause.RangeDiffers variable) refusal = ReportsVariable recording scope variable refusal
Reports design recording scope (cause.MissingInput net) refusal = refusal ≡ MissingInput (net_name design net)
Reports design recording scope (cause.TooLarge places) refusal = refusal ≡ TooLarge places
Reports design recording scope cause.Memory refusal = ⊥

-- The variables aren't bound, and the refusal names the first cause.
pub record IsUnbound (design : Design) (recording : Recording) (scope : Texts) (rounds most : ℕ)
    (refusal : RecordingRefusal) : Type 0 where
  pub cause : BindErr
  pub refused : bind.IsRefusal design recording scope rounds most cause
  pub reports : Reports design recording scope cause refusal

-- The text says a recording whose variables aren't bound.
pub record IsRecordingAlone (text : List ℕ) (design : Design) (scope : Texts) (rounds most : ℕ)
    (refusal : RecordingRefusal) : Type 0 where
  pub recording : Recording
  pub says : Says text recording
  pub unbound : IsUnbound design recording scope rounds most refusal

-- Each refusal by its cause.
abbrev pub IsRefusedRecording : List ℕ → Design → Texts → ℕ → ℕ → RecordingRefusal → Type 0
IsRefusedRecording text design scope rounds most (Grammar fault) = IsFaulty text fault
IsRefusedRecording text design scope rounds most refusal = IsRecordingAlone text design scope rounds most refusal

-- What the text comes to, for a replay of so many rounds and of at most so many places.
abbrev pub RecordingComes : List ℕ → Design → Texts → ℕ → ℕ → Rules → Result Recorded RecordingRefusal → Type 0
RecordingComes text design scope rounds most rules (Ok recorded) =
    IsRecorded text design scope rounds most rules recorded
RecordingComes text design scope rounds most rules (Err refusal) =
    IsRefusedRecording text design scope rounds most refusal

-- Two outcomes are the same: the same recording and binding, which give one stimulus, or the same refusal.
abbrev pub IsSame : Result Recorded RecordingRefusal → Result Recorded RecordingRefusal → Type 0
IsSame (Ok a) (Ok b) = (a.recording ≡ b.recording) × (a.binding ≡ b.binding)
IsSame (Ok a) (Err refusal) = ⊥
IsSame (Err refusal) (Ok b) = ⊥
IsSame (Err refusal) (Err other) = refusal ≡ other

-- An error that is a refusal is of this kind.
abbrev pub IfRecordingRefused : (RecordingRefusal → Type 0) → RecordingErr → Type 0
IfRecordingRefused P (Refused refusal) = P refusal
IfRecordingRefused P Memory = Unit {0}

-- An answer is this outcome, unless memory ran out.
abbrev pub AnswersRecording : Result Recorded RecordingErr → Result Recorded RecordingRefusal → Type 0
AnswersRecording (Ok recorded) outcome = IsSame (Ok recorded) outcome
AnswersRecording (Err (Refused refusal)) outcome = IsSame (Err refusal) outcome
AnswersRecording (Err Memory) outcome = Unit {0}

-- The answer is what the text comes to, unless memory runs out.
abbrev pub IsRecordingAnswer : List ℕ → Design → Texts → ℕ → ℕ → Rules → Result Recorded RecordingErr → Type 0
IsRecordingAnswer text design scope rounds most rules result =
    (outcome : Result Recorded RecordingRefusal) → RecordingComes text design scope rounds most rules outcome
    → AnswersRecording result outcome

-- The law: a text comes to one outcome.
abbrev pub RecordingsComeToOne : Type 0
RecordingsComeToOne = (text : List ℕ) (design : Design) (scope : Texts) (rounds most : ℕ) (rules : Rules)
    (a b : Result Recorded RecordingRefusal) → RecordingComes text design scope rounds most rules a
    → RecordingComes text design scope rounds most rules b → IsSame a b

-- A binding fits the recording that it is of.
pub record IsBoundTo (design : Design) (recording : Recording) (scope : Texts) (rounds most : ℕ)
    (binding : Binding) : Type 0 where
  pub is : bind.IsBinding design recording scope rounds most binding
  pub fits : FitsBinding design binding
  pub variables : All (IsOf recording) binding.bound

-- What was recorded of a design fits it.
pub record FitsRecorded (design : Design) (r : Recorded) : Type 0 where
  pub stim : FitsStim design r.stim
  pub some_round : 1 ≤ r.stim.rounds
  pub few_rounds : r.stim.rounds ≤ 16
  pub times : r.recording.times ≡ r.stim.times
  pub binding : FitsBinding design r.binding
  pub variables : All (IsOf r.recording) r.binding.bound

-- What a cause numbers is there.
abbrev pub IsNamed : Design → Recording → Texts → BindErr → Type 0
IsNamed design recording scope cause.NoScope = Unit {0}
IsNamed design recording scope (cause.RangeDiffers variable) = variable < length recording.variables
IsNamed design recording scope (cause.MissingInput net) = net < length design.nets
IsNamed design recording scope (cause.TooLarge places) = Unit {0}
IsNamed design recording scope cause.Memory = Unit {0}
