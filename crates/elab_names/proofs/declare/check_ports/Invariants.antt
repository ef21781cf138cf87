-- What is left decides, behind the names so far.
use Rattle.std.proofs.Common.{◌≡◌, [], drop}
use Rattle.elab_names.specs.Names.{ports_checked}
use Rattle.elab_names.proofs.declare.check_ports.Given as goal

abbrev pub invariant-ports : goal.invariant-ports
invariant-ports l = ports_checked l.scope [] l.ports ≡ ports_checked l.scope l.seen (drop l.port-index l.ports)
