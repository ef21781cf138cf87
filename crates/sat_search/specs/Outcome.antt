-- What the search answers.
use Rattle.std.specs.Prelude.{◌≡◌, ℕ, List, length, ℤ}
use Rattle.sat_proof.specs.Assignment.{IsModel}
use Rattle.sat_proof.specs.Log.{Refutes, AreFresh, Fit}
use Rattle.sat_search.specs.declared.outcome.Outcome.{Outcome}
use Rattle.sat_search.specs.declared.outcome.Outcome.TheVariants.{Model, Refuted, Limit}

-- a model, a log that refutes, or a fresh log of as many clauses as the limit says; no variable of a log is over the
-- formula's
abbrev pub IsOutcome : List (List ℤ) → ℕ → ℕ → Outcome → Type 0
IsOutcome clauses vars limit (Model model) = IsModel vars clauses model
IsOutcome clauses vars limit (Refuted token) = Refutes clauses token × Fit vars token
IsOutcome clauses vars limit (Limit token) = AreFresh clauses token × (length token ≡ limit) × Fit vars token
