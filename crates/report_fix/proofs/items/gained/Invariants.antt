-- The items so far and those of the bits that are left are all, and each bit that is left is there.
use Rattle.std.proofs.Common.{◌≡◌, ◌++◌, length, map}
use Rattle.std.specs.List.{AllByRecursion, filter}
use Rattle.recording_binding.specs.BoundBits.{IsBitOf, left_of}
use Rattle.report_fix.specs.Gained.{gained_items, is_gained, is_lost, item_in, lost_items}
use Rattle.report_fix.proofs.items.gained.Given as goal

abbrev pub invariant-bits : goal.invariant-bits
invariant-bits l = record {
  gained : l.fixed.gained.items ++ map (item_in l.after) (filter (is_gained l.before l.after) (left_of l.bits))
      ≡ gained_items l.before l.after l.bound;
  lost : l.fixed.lost.items ++ map (item_in l.before) (filter (is_lost l.before l.after) (left_of l.bits))
      ≡ lost_items l.before l.after l.bound;
  within : AllByRecursion (IsBitOf l.before.design (length l.before.stim.times)) (left_of l.bits);
}

abbrev pub decreases-bits : goal.decreases-bits
decreases-bits l = length (left_of l.bits)
