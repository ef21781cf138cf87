-- The names so far are defined.
use Rattle.std.proofs.Common.{◌≡◌, length}
use Rattle.netlist_stub.specs.Known.{texts_of}
use Rattle.netlist_stub.specs.Stubs.{missing}
use Rattle.netlist_stub.proofs.stubs.missing.Given as goal

abbrev pub invariant-names : goal.invariant-names
invariant-names l = missing l.modules (texts_of l.rest) ≡ missing l.modules (texts_of l.fn.names)

abbrev pub decreases-names : goal.decreases-names
decreases-names l = length l.rest
