-- What is left decides.
use Rattle.std.proofs.Common.{◌≡◌, drop}
use Rattle.elab_names.specs.Names.{all_declared}
use Rattle.elab_names.proofs.declare.declare_all.Given as goal

abbrev pub invariant-items : goal.invariant-items
invariant-items l = all_declared l.ports l.items l.fn.here ≡ all_declared l.ports (drop l.item-index l.items) l.here
