-- What is put, with what is left, is the whole.
use Rattle.std.proofs.Common.{◌≡◌, length}
use Rattle.netlist_stub.specs.Known.{texts_of}
use Rattle.netlist_stub.specs.Stubs.{stubbed, with_front}
use Rattle.netlist_stub.proofs.stubs.stubbed.Given as goal

abbrev pub invariant-modules : goal.invariant-modules
invariant-modules l =
    with_front l.out.items (stubbed l.text (texts_of l.names) (texts_of l.supplies) l.at l.rest)
    ≡ stubbed l.text (texts_of l.names) (texts_of l.supplies) 0 l.fn.modules

abbrev pub decreases-modules : goal.decreases-modules
decreases-modules l = length l.rest
