-- What a walk over the replay of a job is refused for.
use Rattle.std.proofs.Common.{ℕ, Result, Ok, Err, IfErr}
use Rattle.design_circuit.specs.Handed.{IsReplay}
use Rattle.design_circuit.specs.History.{HistoryView}
use Rattle.design_circuit.specs.Job.{job_of}
use Rattle.design_circuit.specs.declared.stim.Stim.{Stim}
use Rattle.cmd_job.specs.Compared.{job_for}
use Rattle.cmd_job.specs.declared.netlist.Netlist.{Netlist as ANetlist}
use Rattle.cmd_job.specs.declared.recorded.Recorded.{Recorded}
use Rattle.base_run.specs.Prepared.{IsJudgedBy}
use Rattle.base_run.specs.declared.refusal.Refusal.{Refusal}
use Rattle.base_run.specs.declared.refusal.Refusal.TheVariants.{Read, Long, Text, Memory}
use Rattle.cmd_phases.specs.Phases.{walk_cause}
use Rattle.cmd_phases.specs.Repair.{ReplayWalkComes, WalkComes, WaveComes}
use Rattle.cmd_phases.specs.declared.cause.Refused.{Refused}
use Rattle.law_model.specs.declared.limits.Limits.{Limits}

module _ (limits : Limits) (n : ANetlist) (r : Recorded) (history : HistoryView) (replay : IsReplay (job_for n r) history) {X : Type 0} where
  pub walk_refused : (result : Result X (Refusal Refused)) → IfErr result (IsJudgedBy (WaveComes limits n r.stim history) walk_cause)
      → IfErr result (IsJudgedBy (WalkComes limits n r) walk_cause)
  walk_refused (Ok x) refused = refused
  walk_refused (Err (Read file)) refused = refused
  walk_refused (Err (Long cause)) refused = refused
  walk_refused (Err (Text cause)) (objection, by, is) = (objection, record { history = history; replay = replay; objects = by }, is)
  walk_refused (Err Memory) refused = refused

module _ (limits : Limits) (n : ANetlist) (stim : Stim) (history : HistoryView) (replay : IsReplay (job_of n.design n.order stim) history) {X : Type 0} where
  -- So is one over the replay of any stimulus.
  pub replay_refused : (result : Result X (Refusal Refused)) → IfErr result (IsJudgedBy (WaveComes limits n stim history) walk_cause)
      → IfErr result (IsJudgedBy (ReplayWalkComes limits n stim) walk_cause)
  replay_refused (Ok x) refused = refused
  replay_refused (Err (Read file)) refused = refused
  replay_refused (Err (Long cause)) refused = refused
  replay_refused (Err (Text cause)) (objection, by, is) = (objection, record { history = history; replay = replay; objects = by }, is)
  replay_refused (Err Memory) refused = refused
