-- The places so far and those that are left are all.
use Rattle.std.proofs.Common.{◌≡◌, ◌++◌, drop}
use Rattle.std.specs.List.{AllByRecursion, flat_map}
use Rattle.wave_proved.specs.Contents.{IsWritten}
use Rattle.report_listing.specs.Conditions.{next_text}
use Rattle.report_listing.proofs.conditions.put_rest.Given as goal

abbrev pub invariant-places : goal.invariant-places
invariant-places l = record {
  text : l.text.items ++ flat_map (next_text l.wave) (drop l.place-index l.places)
      ≡ l.fn.text.items ++ flat_map (next_text l.wave) l.places;
  written : AllByRecursion (IsWritten l.wave) (drop l.place-index l.places);
}
