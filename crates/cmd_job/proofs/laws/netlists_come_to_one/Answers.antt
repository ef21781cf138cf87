-- The law, for every text.
use Rattle.cmd_job.proofs.OneNetlist.{one_outcome}
use Rattle.cmd_job.proofs.laws.netlists_come_to_one.Goals as goal

pub returns : goal.returns
returns c = one_outcome
