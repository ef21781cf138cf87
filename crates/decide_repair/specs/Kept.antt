-- Queries that are kept with their answers.
use Rattle.std.specs.Prelude.{◌≡◌, ℕ, ◌+◌, ◌-◌, ◌*◌, ◌%◌, ◌^◌, ◌<◌, ◌≤◌, ◌==◌, List, ℤ, Option, None, Some, length, min}
use Rattle.std.specs.Prelude.{unsigned_abs, if◌then◌else◌}
use Rattle.std.specs.Int as int
use Rattle.std.specs.Int.Bits.{bit_xor}
use Rattle.std.specs.Bool.{nat_eq}
use Rattle.std.specs.List.{fold}
use Rattle.std.specs.Map.{lookup}
use Rattle.sat_proof.specs.declared.clause.Cnf.{Cnf}
use Rattle.sat_search.specs.declared.outcome.Outcome.{Outcome}
use Rattle.decide_repair.specs.Answered.{AnsweredView, answer_of, asked}
use Rattle.decide_repair.specs.declared.answered.Answer.{Answer}
use Rattle.decide_repair.specs.declared.answered.Answer.TheVariants.{Model, Refuted, Limit}

-- The code of clauses: the begin of each and its literals are mixed in, one after the other.
unfoldable pub mixed : ℕ → ℕ → ℕ
mixed code word = int.rotate_left int.w64 (bit_xor code word * 11400714819323198485 % 2 ^ 64) 29

unfoldable pub with_literal : ℕ → ℤ → ℕ
with_literal code literal = mixed code (2 * unsigned_abs literal + int.from_bool (int.is_negative literal))

unfoldable pub with_clause : ℕ → List ℤ → ℕ
with_clause code literals = fold with_literal (mixed code 0) literals

abbrev pub code_of : List (List ℤ) → ℕ
code_of clauses = fold with_clause 0 clauses

-- How many bytes clauses take: four for each literal, and 64 for each clause; no more than 2^64 - 1.
abbrev pub limited : ℕ → ℕ
limited bytes = min bytes (2 ^ 64 - 1)

unfoldable pub with_bytes : ℕ → List ℤ → ℕ
with_bytes bytes literals = limited (limited (bytes + limited (length literals * 4)) + 64)

abbrev pub bytes_of : List (List ℤ) → ℕ
bytes_of clauses = fold with_bytes 0 clauses

abbrev pub answer_bytes : Answer → ℕ
answer_bytes (Model model) = length model
answer_bytes (Refuted log) = bytes_of log
answer_bytes (Limit log) = bytes_of log

abbrev pub bytes_with : Cnf → Answer → ℕ
bytes_with query answer = limited (bytes_of query.clauses + answer_bytes answer)

-- What callers see of the queries that are kept: they with their codes, and how many bytes all that were kept take.
pub record KeptView : Type 0 where
  pub entries : List (ℕ × AnsweredView)
  pub bytes : ℕ

-- The one of a code, if there is one.
abbrev pub by_code : KeptView → ℕ → Option AnsweredView
by_code kept code = lookup (nat_eq code) kept.entries

pub record IsEmpty (kept : KeptView) : Type 0 where
  pub none : (code : ℕ) → by_code kept code ≡ None
  pub bytes : kept.bytes ≡ 0

-- A query is kept, with a limit and its answer.
abbrev pub IsKeptAnswer : KeptView → Cnf → ℕ → Answer → Type 0
IsKeptAnswer kept query limit answer = by_code kept (code_of query.clauses) ≡ Some (asked query limit answer)

-- The answer that is kept of a query with a limit, or none is.
abbrev pub IsRecalled : KeptView → Cnf → ℕ → Option Outcome → Type 0
IsRecalled kept query limit None = (answer : Answer) → IsKeptAnswer kept query limit answer → ⊥
IsRecalled kept query limit (Some outcome) = IsKeptAnswer kept query limit (answer_of outcome)

-- Nothing has changed.
pub record IsSame (old new : KeptView) : Type 0 where
  pub kept : (code : ℕ) → by_code new code ≡ by_code old code
  pub bytes : new.bytes ≡ old.bytes

-- A query comes in with its answer, in place of the one of its code.
pub record Puts (old : KeptView) (query : Cnf) (limit : ℕ) (answer : Answer) (new : KeptView) : Type 0 where
  pub kept : (code : ℕ) → by_code new code
      ≡ (if code_of query.clauses == code then Some (asked query limit answer) else by_code old code)
  pub bytes : new.bytes ≡ old.bytes + bytes_with query answer

-- It does where there is room, which is for 2^26 bytes.
pub record PutsIfRoom (old : KeptView) (query : Cnf) (limit : ℕ) (answer : Answer) (new : KeptView) : Type 0 where
  pub room : bytes_with query answer ≤ 2 ^ 26 - old.bytes → Puts old query limit answer new
  pub full : 2 ^ 26 - old.bytes < bytes_with query answer → IsSame old new

-- A query is asked: one that is kept gets its answer again, and any other is put in with its answer, if there is room.
pub record Asks (old : KeptView) (query : Cnf) (limit : ℕ) (answer : Answer) (new : KeptView) : Type 0 where
  pub again : (known : Answer) → IsKeptAnswer old query limit known → (answer ≡ known) × IsSame old new
  pub first : ((known : Answer) → IsKeptAnswer old query limit known → ⊥) → PutsIfRoom old query limit answer new
