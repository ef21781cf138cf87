-- One output less each time.
use Rattle.std.proofs.Common.{length}
use Rattle.base_line.proofs.outputs.+are_apart.Given as goal

abbrev pub decreases-are_apart : goal.decreases-are_apart
decreases-are_apart l = length l.outputs.now
