-- When a job fits.
use Rattle.design_circuit.specs.Handed.{IsReplay}
use Rattle.cmd_job.specs.Compared.{job_for}
use Rattle.cmd_job.specs.Netlist.{FitsNetlist}
use Rattle.cmd_job.specs.Recorded.{FitsRecorded}
use Rattle.wave_proved.specs.Contents.{AreLimits}
use Rattle.test_cert.specs.declared.job.Job.{Job}

-- Its netlist and its recording fit, its history is the replay, and its limits may be such.
pub record FitsJob (job : Job) : Type 0 where
  pub netlist : FitsNetlist job.netlist.now
  pub recorded : FitsRecorded job.netlist.now.design job.recorded.now
  pub replay : IsReplay (job_for job.netlist.now job.recorded.now) job.history.now
  pub limited : AreLimits job.limits
