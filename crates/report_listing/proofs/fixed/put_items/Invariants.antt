-- The lines so far and those that are left are all.
use Rattle.std.proofs.Common.{◌≡◌, ◌++◌, drop}
use Rattle.std.specs.List.{AllByRecursion, flat_map}
use Rattle.report_listing.specs.Fixed.{IsThere, item_line}
use Rattle.report_listing.proofs.fixed.put_items.Given as goal

abbrev pub invariant-items : goal.invariant-items
invariant-items l = record {
  text : l.text.items ++ flat_map (item_line l.word l.wave) (drop l.item-index l.items)
      ≡ l.fn.text.items ++ flat_map (item_line l.word l.wave) l.items;
  places : AllByRecursion (IsThere l.wave) (drop l.item-index l.items);
}
