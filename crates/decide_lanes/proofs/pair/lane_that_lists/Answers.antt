-- The empty filling has its lane.
use Rattle.design_circuit.specs.Circuit.{job_in}
use Rattle.decide_lanes.proofs.LanePairs.{empty_lists}
use Rattle.decide_lanes.proofs.pair.lane_that_lists.Goals as goal

pub returns-in-empty : goal.returns-in-empty
returns-in-empty c = empty_lists (job_in c.args.circuit.now) c.args.list.now c.args.filling.now c.in-empty.len_below
