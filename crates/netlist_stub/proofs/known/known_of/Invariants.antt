-- What is declared so far, and then by the parts that are left.
use Rattle.std.proofs.Common.{◌≡◌, length, map}
use Rattle.netlist_stub.specs.Known.{known_of, nothing, texts_of}
use Rattle.netlist_stub_read.specs.Parts.{seen_part}
use Rattle.netlist_stub.proofs.known.known_of.Given as goal

abbrev pub invariant-parts : goal.invariant-parts
invariant-parts l =
    known_of (texts_of l.supplies) l.known (map seen_part l.rest) ≡ known_of (texts_of l.supplies) nothing (map seen_part l.fn.parts)

abbrev pub decreases-parts : goal.decreases-parts
decreases-parts l = length l.rest
