-- What is found again is what is kept.
use Rattle.std.proofs.Common.{◌≡◌, ℕ, Option, None, Some, IfOk, ap, ◌∙◌}
use Rattle.std.specs.Prelude.{Result, Ok, Err}
use Rattle.base_lists.specs.declared.memory.Memory.{Memory}
use Rattle.sat_proof.specs.declared.clause.Cnf.{Cnf}
use Rattle.sat_search.specs.declared.outcome.Outcome.{Outcome}
use Rattle.decide_repair.specs.Answered.{AnsweredView, IsAgain, asked}
use Rattle.decide_repair.specs.Kept.{IsRecalled, KeptView, by_code, code_of}

same_some : {A : Type 0} (o : Option A) (a b : A) → o ≡ Some a → o ≡ Some b → a ≡ b
same_some o a b first second = cc

pub recalled : (kept : KeptView) (answered : AnsweredView) (query : Cnf) (limit : ℕ)
    (result : Result (Option Outcome) Memory) → by_code kept (code_of query.clauses) ≡ Some answered
    → IfOk result (IsAgain answered query limit) → IfOk result (IsRecalled kept query limit)
recalled kept answered query limit (Ok None) here again =
    λ answer is. again answer (same_some _ answered (asked query limit answer) here is)
recalled kept answered query limit (Ok (Some outcome)) here again = here ∙ ap Some again
recalled kept answered query limit (Err e) here again = tt
