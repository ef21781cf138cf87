-- What a turn of `print_all` keeps, and what is left to print.
use Rattle.std.proofs.Common.{length, ◌-◌}
use Rattle.base_shelf.proofs.Turns.{PrintTurn}
use Rattle.base_shelf.proofs.sink.print_all.Given as goal

abbrev pub invariant-turns : goal.invariant-turns
invariant-turns g l = PrintTurn g.O.Sink.told l.bytes l.done (g.O.Sink.view l.fn.out) (g.O.Sink.view l.out)

abbrev pub decreases-turns : goal.decreases-turns
decreases-turns g l = length l.bytes - l.done
