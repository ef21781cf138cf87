-- The clauses of a formula and those of a log.
use Rattle.std.specs.Prelude.{List, ◌++◌, ℤ}
use Rattle.sat_proof.specs.declared.premises.Premises.{Premises}

-- all of them, the formula's first
abbrev pub all_in : Premises → List (List ℤ)
all_in clauses = clauses.formula.now ++ clauses.log.now
