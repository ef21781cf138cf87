-- The loop of `offer_readers`: links lead back.
use Rattle.std.proofs.Common.{◌≡◌, ◌<◌, ℕ, Some, length}
use Rattle.std.specs.BTreeSet.{contains}
use Rattle.std.specs.Ordering.{nat_cmp}
use Rattle.design_circuit.specs.Job.{driver_in}
use Rattle.design_order.specs.Progress.{IsSound}
use Rattle.design_order.specs.Pending.{Pending, rest_of}
use Rattle.design_order.proofs.progress.Progress.offer_readers.Given as goal

abbrev pub invariant-chain : goal.invariant-chain
invariant-chain l = record {
  listed : l.self.listed.items ≡ l.initial.self.listed.items;
  flags : l.self.flags.items ≡ l.initial.self.flags.items;
  inside : (e : ℕ) → l.at ≡ Some e → e < length l.readers.links.items;
  sound : IsSound (driver_in l.design) (length l.design.nets) l.self.flags.items (contains nat_cmp l.self.ready);
  pending : Pending (driver_in l.design) (length l.design.nets) l.self.flags.items l.readers l.at (contains nat_cmp l.self.ready);
}

abbrev pub decreases-chain : goal.decreases-chain
decreases-chain l = rest_of l.at
