-- The loop of `order`.
use Rattle.std.proofs.Common.{◌≡◌, length}
use Rattle.std.specs.BTreeSet.{contains}
use Rattle.std.specs.Ordering.{nat_cmp}
use Rattle.design_circuit.specs.Job.{driver_in}
use Rattle.design_order.specs.Progress.{IsProgress}
use Rattle.design_order.proofs.listing.order.Given as goal

abbrev pub invariant-nets : goal.invariant-nets
invariant-nets l = record {
  progress : IsProgress (driver_in l.design) (length l.design.nets) l.progress.listed.items l.progress.flags.items (contains nat_cmp l.progress.ready);
  count : length l.progress.listed.items ≡ l._n;
}
