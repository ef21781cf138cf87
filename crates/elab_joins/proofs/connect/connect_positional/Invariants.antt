-- What is left decides.
use Rattle.std.proofs.Common.{◌≡◌, drop}
use Rattle.elab_joins.specs.Connect.{all_positional}
use Rattle.elab_joins.proofs.connect.connect_positional.Given as goal

abbrev pub invariant-list : goal.invariant-list
invariant-list l = all_positional l.inner l.ports l.list l.fn.here ≡ all_positional l.inner l.left (drop l.connection-index l.list) l.here
