-- What a turn of the reads keeps.
use Rattle.std.proofs.Common.{◌+◌, ◌-◌, length}
use Rattle.base_files.proofs.Fetching.{IsReading}
use Rattle.base_files.proofs.fetched.read_file.Given as goal

abbrev pub invariant-turns : goal.invariant-turns
invariant-turns g l = IsReading l.fn.name l.text.items l.fn.gave.entries l.gave.entries l.fn.ended.entries l.ended.entries

abbrev pub decreases-turns : goal.decreases-turns
decreases-turns g l = l.limit + 1 - length l.text.items
