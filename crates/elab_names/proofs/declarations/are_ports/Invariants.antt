-- What is left decides, behind the names so far.
use Rattle.std.proofs.Common.{◌≡◌, [], drop}
use Rattle.elab_names.specs.Names.{ports_checked}
use Rattle.elab_names.specs.Scope.{scope_of}
use Rattle.elab_names.proofs.declarations.are_ports.Given as goal

abbrev pub invariant-ports : goal.invariant-ports
invariant-ports l = ports_checked (scope_of [] l.names []) [] l.ports ≡ ports_checked (scope_of [] l.names []) l.seen (drop l.port-index l.ports)
