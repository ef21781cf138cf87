-- What a code's text comes to for a job, and the replay under it.
use Rattle.std.specs.Prelude.{ℕ, List, ◌++◌, Result, Ok, Err, codes, decimal, length}
use Rattle.design_circuit.specs.Force.{forced_by}
use Rattle.design_circuit.specs.Handed.{IsReplayUnder}
use Rattle.design_circuit.specs.History.{HistoryView}
use Rattle.design_circuit.specs.declared.force.Event.{Event}
use Rattle.design_circuit.specs.declared.stim.Stim.{Stim}
use Rattle.replay_code.specs.Code.{Code, code}
use Rattle.replay_code.specs.Says.{CodeSays, FirstFault}
use Rattle.replay_code.specs.declared.fault.CodeFault.{CodeFault}
use Rattle.cmd_job.specs.Compared.{job_for}
use Rattle.base_lists.specs.Text.{line}
use Rattle.cmd_phases.specs.declared.parts.Parts.{Parts}

-- The most bytes of a code or a certificate.
abbrev pub text_limit : ℕ
text_limit = 9223372036854775807

-- A text as code of the job's nets, in the scope of these names.
abbrev pub code_in : Parts → List ℕ → List (List ℕ) → Code
code_in job text scope = code text job.netlist.design job.netlist.order job.recorded.stim scope

-- It says forces, or has a first fault.
abbrev pub CodeComes : Code → Result (List Event) CodeFault → Type 0
CodeComes c (Ok forces) = CodeSays c forces
CodeComes c (Err fault) = FirstFault c fault

-- A history is the replay of the job under forces.
abbrev pub IsForced : Parts → List Event → HistoryView → Type 0
IsForced job forces history =
    IsReplayUnder (job_for job.netlist job.recorded) (forced_by (job_for job.netlist job.recorded) forces) history

-- The replay is found; it comes to nothing else.
abbrev pub ForcedComes : Parts → List Event → Result HistoryView ⊥ → Type 0
ForcedComes job forces (Ok history) = IsForced job forces history
ForcedComes job forces (Err none) = ⊥

-- `replayed M moments`
abbrev pub moments_line : Stim → List ℕ
moments_line stim = line (codes "replayed " ++ (decimal (length stim.times) ++ codes " moments"))
