-- The loop of `no_progress`.
use Rattle.std.proofs.Common.{◌≡◌, [], length, replicate, false}
use Rattle.std.specs.BTreeSet.{contains}
use Rattle.std.specs.Ordering.{nat_cmp}
use Rattle.design_circuit.specs.Job.{driver_in}
use Rattle.design_order.specs.Progress.{IsSound, IsComplete}
use Rattle.design_order.proofs.progress.no_progress.Given as goal

abbrev pub invariant-loop-net : goal.invariant-loop-net
invariant-loop-net l = record {
  none : l.progress.listed.items ≡ [];
  flags : l.progress.flags.items ≡ replicate (length l.design.nets) false;
  sound : IsSound (driver_in l.design) (length l.design.nets) l.progress.flags.items (contains nat_cmp l.progress.ready);
  complete : IsComplete (driver_in l.design) l.net l.progress.flags.items (contains nat_cmp l.progress.ready);
}
