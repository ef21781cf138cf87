-- The options so far.
use Rattle.std.proofs.Common.{◌≡◌, map, take}
use Rattle.clap.specs.Words.{app_of}
use Rattle.base_line.specs.Told.{app_with, rule_for}
use Rattle.base_line.proofs.told.command_of.Given as goal

abbrev pub invariant-options : goal.invariant-options
invariant-options l = app_of l.command ≡ app_with l.fn.name (map rule_for (take l.option-index l.options))
