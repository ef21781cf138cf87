-- The nets so far.
use Rattle.std.proofs.Common.{◌≡◌, ◌+◌, ◌++◌, length}
use Rattle.elab_nets.specs.Ranges.{upto, bit_at}
use Rattle.elab_nets.specs.State.{name_under, first_driver}
use Rattle.elab_nets.specs.Board.{names_of, drivers_of, IsBoard}
use Rattle.elab_nets.proofs.nets.push_nets.Given as goal

abbrev pub invariant-bits : goal.invariant-bits
invariant-bits l = record {
  names : names_of l.nets.items ≡ names_of l.fn.nets.items ++ upto (λ bit. name_under l.prefix l.net.name.now (bit_at l.net.range bit)) l.bit;
  drivers : drivers_of l.nets.items l.driven.items ≡ drivers_of l.fn.nets.items l.fn.driven.items ++ upto (λ _. first_driver l.prefix l.net.what) l.bit;
  count : length l.nets.items ≡ length l.fn.nets.items + l.bit;
  board : IsBoard l.nets.items l.driven.items;
}
