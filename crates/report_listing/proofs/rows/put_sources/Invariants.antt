-- The lines so far and those that are left are all.
use Rattle.std.proofs.Common.{◌≡◌, ◌++◌, drop}
use Rattle.std.specs.List.{AllByRecursion, flat_map}
use Rattle.report_listing.specs.Blame.{HasSource, source_line}
use Rattle.report_listing.proofs.rows.put_sources.Given as goal

abbrev pub invariant-sources : goal.invariant-sources
invariant-sources l = record {
  text : l.text.items ++ flat_map (source_line l.wave) (drop l.row-index l.table)
      ≡ l.fn.text.items ++ flat_map (source_line l.wave) l.table;
  places : AllByRecursion (HasSource l.wave) (drop l.row-index l.table);
}
