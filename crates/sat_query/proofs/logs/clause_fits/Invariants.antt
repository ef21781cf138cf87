-- The literals so far fit.
use Rattle.std.proofs.Common.{◌≤◌, take}
use Rattle.std.specs.Prelude.{nat_abs}
use Rattle.std.specs.List.{All}
use Rattle.sat_query.proofs.logs.clause_fits.Given as goal

abbrev pub invariant-literals : goal.invariant-literals
invariant-literals l = All (λ x. nat_abs x ≤ l.vars) (take l.literal-index l.literals)
