-- What a turn of `write_all` keeps, and what is left to write.
use Rattle.std.proofs.Common.{length, ◌-◌}
use Rattle.base_shelf.proofs.Turns.{WriteTurn}
use Rattle.base_shelf.proofs.shelf.write_all.Given as goal

abbrev pub invariant-turns : goal.invariant-turns
invariant-turns g l = WriteTurn g.S.Shelf.told l.fn.name l.bytes l.done (g.S.Shelf.view l.fn.shelf) (g.S.Shelf.view l.shelf)

abbrev pub decreases-turns : goal.decreases-turns
decreases-turns g l = length l.bytes - l.done
