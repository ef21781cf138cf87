-- The lines so far and those that are left are all.
use Rattle.std.proofs.Common.{◌≡◌, ◌++◌, drop}
use Rattle.std.specs.List.{AllByRecursion, flat_map}
use Rattle.report_audit.specs.Found.{HasPlace}
use Rattle.wave_proved.specs.Contents.{job}
use Rattle.report_listing.specs.Audit.{found_line}
use Rattle.report_listing.proofs.found.put_found.Given as goal

abbrev pub invariant-listed : goal.invariant-listed
invariant-listed l = record {
  text : l.text.items ++ flat_map (found_line l.wave) (drop l.found-index l.listed)
      ≡ l.fn.text.items ++ flat_map (found_line l.wave) l.listed;
  places : AllByRecursion (HasPlace (job l.wave)) (drop l.found-index l.listed);
}
