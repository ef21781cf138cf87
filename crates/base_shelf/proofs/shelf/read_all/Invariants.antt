-- What a turn of `read_all` keeps, and how much the text may still grow.
use Rattle.std.proofs.Common.{length, ◌-◌, ◌<◌}
use Rattle.base_shelf.proofs.Turns.{ReadTurn}
use Rattle.base_shelf.proofs.shelf.read_all.Given as goal

abbrev pub invariant-turns : goal.invariant-turns
invariant-turns g l = ReadTurn g.S.Shelf.told l.fn.name l.text.items l.limit (g.S.Shelf.view l.fn.shelf) (g.S.Shelf.view l.shelf) × (0 < length l.buffer)

abbrev pub decreases-turns : goal.decreases-turns
decreases-turns g l = l.limit - length l.text.items
