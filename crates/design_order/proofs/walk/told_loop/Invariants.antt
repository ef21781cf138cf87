-- The loop of `told_loop`: each step gives one net more a place.
use Rattle.std.specs.List.{count_by}
use Rattle.design_circuit.specs.Job.{driver_in}
use Rattle.design_order.specs.Walk.{IsWalking, is_free}
use Rattle.design_order.proofs.walk.told_loop.Given as goal

abbrev pub invariant-walk : goal.invariant-walk
invariant-walk l = IsWalking (driver_in l.design) l.progress.flags.items l.walk.items l.net l.places.items

abbrev pub decreases-walk : goal.decreases-walk
decreases-walk l = count_by is_free l.places.items
