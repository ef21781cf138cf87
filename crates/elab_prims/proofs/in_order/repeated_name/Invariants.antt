-- What is left decides, behind the names so far.
use Rattle.std.proofs.Common.{◌≡◌, length}
use Rattle.elab_prims.specs.Names.{first_repeated}
use Rattle.elab_prims.specs.Definitions.{names_left, repeated}
use Rattle.elab_prims.proofs.in_order.repeated_name.Given as goal

abbrev pub invariant-names : goal.invariant-names
invariant-names l = repeated l.source ≡ first_repeated l.seen (names_left l.order)

abbrev pub decreases-names : goal.decreases-names
decreases-names l = length (names_left l.order)
