-- Less is wanting.
use Rattle.std.proofs.Common.{◌+◌, ◌-◌, length}
use Rattle.decide_tables.proofs.kept.note.Given as goal

abbrev pub decreases-more : goal.decreases-more
decreases-more l = l.node + 1 - length l.slots.items
