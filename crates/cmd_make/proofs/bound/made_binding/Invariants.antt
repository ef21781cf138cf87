-- The nets so far.
use Rattle.std.proofs.Common.{◌≡◌}
use Rattle.cmd_make.specs.Recording.{nets_bound}
use Rattle.cmd_make.proofs.bound.made_binding.Given as goal

abbrev pub invariant-nets : goal.invariant-nets
invariant-nets l = l.bound.items ≡ nets_bound l.design l.net
