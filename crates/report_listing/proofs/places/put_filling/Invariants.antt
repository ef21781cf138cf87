-- The text so far and the places that are left are all.
use Rattle.std.proofs.Common.{◌≡◌, ◌++◌, drop}
use Rattle.std.specs.List.{flat_map}
use Rattle.report_listing.specs.Places.{listed_text}
use Rattle.report_listing.proofs.places.put_filling.Given as goal

abbrev pub invariant-places : goal.invariant-places
invariant-places l =
    l.text.items ++ flat_map listed_text (drop l.place-index l.filling) ≡ l.fn.text.items ++ flat_map listed_text l.filling
