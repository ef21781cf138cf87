-- All stay below the bound.
use Rattle.std.proofs.Common.{◌<◌}
use Rattle.std.specs.List.{AllByRecursion}
use Rattle.decide_tables.proofs.missing.insert_all.Given as goal

abbrev pub invariant-arguments : goal.invariant-arguments
invariant-arguments l = AllByRecursion (λ k. k < l.bound) l.reached
