-- The digits so far, and then the others.
use Rattle.std.proofs.Common.{◌≡◌, length}
use Rattle.netlist_stub.specs.Sums.{number_from}
use Rattle.netlist_stub.proofs.sum.number_of.Given as goal

abbrev pub invariant-digits : goal.invariant-digits
invariant-digits l = number_from l.number l.rest ≡ number_from 0 l.fn.digits

abbrev pub decreases-digits : goal.decreases-digits
decreases-digits l = length l.rest
