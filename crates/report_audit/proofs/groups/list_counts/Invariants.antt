-- The groups so far and those of the entries that are left are all.
use Rattle.std.proofs.Common.{◌≡◌, ◌++◌, map}
use Rattle.report_audit.specs.Counted.{group_of}
use Rattle.report_audit.proofs.groups.list_counts.Given as goal

abbrev pub invariant-counts : goal.invariant-counts
invariant-counts l = l.groups.items ++ map group_of l.giver-iterator ≡ map group_of l.counts.entries
