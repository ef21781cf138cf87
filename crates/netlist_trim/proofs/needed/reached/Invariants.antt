-- What is come to so far, and what the first of these lead to.
use Rattle.std.proofs.Common.{◌-◌, length}
use Rattle.netlist_trim.proofs.Growing.{Covers}
use Rattle.netlist_trim.proofs.needed.reached.Given as goal

abbrev pub invariant-numbers : goal.invariant-numbers
invariant-numbers l = Covers l.library l.top l.next l.numbers

abbrev pub decreases-numbers : goal.decreases-numbers
decreases-numbers l = length l.library - l.next
