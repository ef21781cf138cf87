-- No literal so far is true.
use Rattle.std.proofs.Common.{◌≡◌, false, take}
use Rattle.std.specs.List.{All}
use Rattle.sat_proof.specs.Assignment.{assigned, value_of}
use Rattle.sat_query.proofs.models.is_met.Given as goal

abbrev pub invariant-literals : goal.invariant-literals
invariant-literals l = All (λ x. value_of (assigned l.values) x ≡ false) (take l.literal-index l.literals)
