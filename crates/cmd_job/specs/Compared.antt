-- What a job comes to when its replay is compared with its recording: the replay, or the first fault.
use Rattle.std.specs.Prelude.{◌≡◌, ◌⊎◌, ℕ, ◌<◌, ◌==◌, List, Result, Ok, Err, IsOk, find, length, slice_index, unwrap_or}
use Rattle.design_circuit.specs.Handed.{IsReplay}
use Rattle.design_circuit.specs.History.{HistoryView}
use Rattle.design_circuit.specs.Job.{Job, job_of}
use Rattle.recording_binding.specs.declared.binding.Binding.{Binding}
use Rattle.recording_binding.specs.declared.binding.Bound.{Bound}
use Rattle.replay_history.specs.Fault.{IsFaultless, IsFirstFault, no_variable}
use Rattle.replay_history.specs.declared.differ.Differ.{Differ}
use Rattle.replay_history.specs.declared.differ.Differ.TheVariants as differ
use Rattle.cmd_job.specs.Names.{net_name}
use Rattle.cmd_job.specs.declared.netlist.Netlist.{Netlist}
use Rattle.cmd_job.specs.declared.recorded.Recorded.{Recorded}
use Rattle.cmd_job.specs.declared.compare_refusal.CompareErr.{CompareErr}
use Rattle.cmd_job.specs.declared.compare_refusal.CompareErr.TheVariants.{Refused, Memory}
use Rattle.cmd_job.specs.declared.compare_refusal.CompareRefusal.{CompareRefusal}
use Rattle.cmd_job.specs.declared.compare_refusal.CompareRefusal.TheVariants.{Disagrees, Unsettled}

abbrev pub job_for : Netlist → Recorded → Job
job_for netlist recorded = job_of netlist.design netlist.order recorded.stim

-- the bound variable with a number
abbrev pub bound_in : List Bound → ℕ → Bound
bound_in bounds number = unwrap_or (find (λ (b : Bound). b.variable == number) bounds) no_variable

-- the net of a bit of it, counted from the left
abbrev pub net_of_bit : Binding → ℕ → ℕ → ℕ
net_of_bit binding variable bit = slice_index (bound_in binding.bound variable).bits bit

-- A fault by the time of its moment and the written name of its net.
abbrev pub refusal_for : Netlist → Recorded → Differ → CompareRefusal
refusal_for netlist recorded (differ.Unsettled net moment kept next) =
    Unsettled (slice_index recorded.recording.times moment) (net_name netlist.design net) kept next
refusal_for netlist recorded (differ.Disagrees variable bit moment was replayed) =
    Disagrees (slice_index recorded.recording.times moment)
    (net_name netlist.design (net_of_bit recorded.binding variable bit)) was replayed

-- The first fault of the recording, compared with the replay.
pub record IsRefusedReplay (netlist : Netlist) (recorded : Recorded) (refusal : CompareRefusal) : Type 0 where
  pub differ : Differ
  pub first : IsFirstFault (job_for netlist recorded) recorded.recording recorded.binding differ
  pub reported : refusal ≡ refusal_for netlist recorded differ

-- What the job comes to.
abbrev pub ReplayComes : Netlist → Recorded → Result HistoryView CompareRefusal → Type 0
ReplayComes netlist recorded (Ok history) =
    IsReplay (job_for netlist recorded) history
    × IsFaultless (job_for netlist recorded) recorded.recording recorded.binding
ReplayComes netlist recorded (Err refusal) = IsRefusedReplay netlist recorded refusal

-- An error that is a refusal is of this kind.
abbrev pub IfCompareRefused : (CompareRefusal → Type 0) → CompareErr → Type 0
IfCompareRefused P (Refused refusal) = P refusal
IfCompareRefused P Memory = Unit {0}

-- The job's replay has no fault exactly where the answer is one, and a fault is reported as it is, unless memory runs
-- out.
pub record IsReplayAnswer (netlist : Netlist) (recorded : Recorded)
    (result : Result HistoryView CompareErr) : Type 0 where
  pub replayed : IsFaultless (job_for netlist recorded) recorded.recording recorded.binding
      → IsOk result ⊎ (result ≡ Err Memory)
  pub refused : (refusal : CompareRefusal) → IsRefusedReplay netlist recorded refusal
      → (result ≡ Err (Refused refusal)) ⊎ (result ≡ Err Memory)

-- What a fault numbers is there.
abbrev pub IsThere : Netlist → Recorded → Differ → Type 0
IsThere netlist recorded (differ.Unsettled net moment kept next) =
    (net < length netlist.design.nets) × (moment < length recorded.recording.times)
IsThere netlist recorded (differ.Disagrees variable bit moment was replayed) =
    (bit < length (bound_in recorded.binding.bound variable).bits) × (moment < length recorded.recording.times)
