-- The place and those of the list are written.
use Rattle.std.proofs.Common.{subst, sym}
use Rattle.std.specs.List.{AllByRecursion}
use Rattle.wave_proved.specs.Contents.{IsWritten}
use Rattle.report_listing.proofs.NeededPlaces.{listed_written, place_written}
use Rattle.report_listing.proofs.conditions.put_condition.Goals as goal

pub put_valued-requires : goal.put_valued-requires
put_valued-requires c =
    subst (IsWritten c.args.wave.now) (sym c.place.ensures)
    (place_written c.args.wave.now c.args.condition.now c.requires)

pub put_needs-requires : goal.put_needs-requires
put_needs-requires c =
    subst (AllByRecursion (IsWritten c.args.wave.now)) (sym c.places.ensures)
    (listed_written c.args.wave.now c.args.condition.now c.requires)
