-- What is left decides, behind the names so far.
use Rattle.std.proofs.Common.{◌≡◌, [], drop}
use Rattle.elab_joins.specs.Connect.{all_named}
use Rattle.elab_joins.proofs.connect.connect_named.Given as goal

abbrev pub invariant-list : goal.invariant-list
invariant-list l = all_named l.inner l.ports [] l.list l.fn.here ≡ all_named l.inner l.ports l.seen (drop l.connection-index l.list) l.here
