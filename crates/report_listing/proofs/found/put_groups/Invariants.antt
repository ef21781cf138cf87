-- The lines so far and those that are left are all.
use Rattle.std.proofs.Common.{◌≡◌, ◌++◌, drop}
use Rattle.std.specs.List.{flat_map}
use Rattle.report_listing.specs.Audit.{group_line}
use Rattle.report_listing.proofs.found.put_groups.Given as goal

abbrev pub invariant-groups : goal.invariant-groups
invariant-groups l =
    l.text.items ++ flat_map group_line (drop l.group-index l.groups) ≡ l.fn.text.items ++ flat_map group_line l.groups
