-- The lines so far and those that are left are all.
use Rattle.std.proofs.Common.{◌≡◌, ◌++◌, drop}
use Rattle.std.specs.List.{AllByRecursion, flat_map}
use Rattle.report_listing.specs.Blame.{HasPlaces, blamed_line}
use Rattle.report_listing.proofs.rows.put_bits.Given as goal

abbrev pub invariant-bits : goal.invariant-bits
invariant-bits l = record {
  text : l.text.items ++ flat_map (blamed_line l.wave) (drop l.bit-index l.bits)
      ≡ l.fn.text.items ++ flat_map (blamed_line l.wave) l.bits;
  places : AllByRecursion (HasPlaces l.wave) (drop l.bit-index l.bits);
}
