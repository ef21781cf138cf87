-- One after the other.
use Rattle.cmd_job.proofs.Appends.{two}
use Rattle.cmd_job.proofs.lines.put_loop.Goals as goal

pub returns : goal.returns
returns c = two _ _ _ _ _ c.in_ok-put.ensures c.in_ok-put_spaced.ensures
