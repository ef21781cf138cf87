-- The names so far are declared.
use Rattle.std.proofs.Common.{◌≡◌, length, map}
use Rattle.netlist_trim.specs.Shown.{seen}
use Rattle.netlist_stub.specs.Stubs.{undirected}
use Rattle.netlist_stub.proofs.stubs.undirected.Given as goal

abbrev pub invariant-names : goal.invariant-names
invariant-names l = undirected l.listed (map seen l.rest) ≡ undirected l.listed (map seen l.fn.names)

abbrev pub decreases-names : goal.decreases-names
decreases-names l = length l.rest
