-- What is left to put leads to the whole.
use Rattle.std.proofs.Common.{◌≡◌, ◌++◌, drop}
use Rattle.replay_code.specs.Names.{scope_prefix}
use Rattle.replay_code.proofs.names.put_scope.Given as goal

abbrev pub invariant-names : goal.invariant-names
invariant-names l = l.text.items ++ scope_prefix (drop l.name-index l.scope) ≡ l.fn.text.items ++ scope_prefix l.scope
