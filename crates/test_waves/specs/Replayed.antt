-- A job with its replay.
use Rattle.design_circuit.specs.Handed.{IsReplay}
use Rattle.design_circuit.specs.History.{HistoryView}
use Rattle.cmd_job.specs.Compared.{job_for}
use Rattle.cmd_job.specs.Netlist.{FitsNetlist}
use Rattle.cmd_job.specs.Recorded.{FitsRecorded}
use Rattle.cmd_job.specs.declared.netlist.Netlist.{Netlist}
use Rattle.cmd_job.specs.declared.recorded.Recorded.{Recorded}

-- The netlist fits, what was recorded fits it, and the history is their replay.
pub record IsReplayed (netlist : Netlist) (recorded : Recorded) (history : HistoryView) : Type 0 where
  pub netlist_fits : FitsNetlist netlist
  pub recorded_fits : FitsRecorded netlist.design recorded
  pub replayed : IsReplay (job_for netlist recorded) history
