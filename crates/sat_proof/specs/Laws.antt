-- The law of fresh logs, which the function of src/laws.rt ensures.
use Rattle.std.specs.Prelude.{ℕ, List, ℤ}
use Rattle.sat_proof.specs.Log.{AreFresh, Fit}

-- A fresh log names only variables that its query's clauses name: where none of these is over a number, none of the
-- log's is.
abbrev pub FreshLogsFit : Type 0
FreshLogsFit = (vars : ℕ) (query log : List (List ℤ)) → Fit vars query → AreFresh query log → Fit vars log
