-- What is put, with what is left, is the whole.
use Rattle.std.proofs.Common.{◌≡◌, ◌++◌, [], length, map}
use Rattle.netlist_trim.specs.Shown.{seen}
use Rattle.netlist_stub.specs.Stubs.{names_text}
use Rattle.netlist_stub.proofs.text.put_names.Given as goal

abbrev pub invariant-names : goal.invariant-names
invariant-names l =
    l.out.items ++ names_text l.separator (map seen l.rest) ≡ l.fn.out.items ++ names_text [] (map seen l.fn.names)

abbrev pub decreases-names : goal.decreases-names
decreases-names l = length l.rest
