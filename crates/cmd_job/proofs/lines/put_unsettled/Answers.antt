-- One after the other.
use Rattle.cmd_job.proofs.Appends.{three}
use Rattle.cmd_job.proofs.lines.put_unsettled.Goals as goal

pub returns : goal.returns
returns c = three _ _ _ _ _ _ _ c.in_ok-put.ensures c.in_ok-put_spot.ensures c.in_ok-put_values.ensures
