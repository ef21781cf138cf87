-- Laws of the readers: what a text stands for is read, what has a fault is refused for it, and what is written is read
-- as what was written.
use Rattle.std.specs.Prelude.{◌≡◌, ℕ, ℤ, ◌≤◌, ◌<◌, List, Result, Ok, Err, MatchResult, length}
use Rattle.std.specs.List.{All}
use Rattle.sat_proof.specs.Assignment.{HasNoZero}
use Rattle.sat_proof.specs.Log.{Fit}
use Rattle.sat_proof.specs.declared.clause.Cnf.{Cnf}
use Rattle.sat_dimacs.specs.declared.refusal.DimacsErr.{DimacsErr}
use Rattle.sat_dimacs.specs.declared.refusal.DimacsErr.TheVariants.{Refused, Memory}
use Rattle.sat_dimacs.specs.declared.fault.DimacsFault.{DimacsFault}
use Rattle.sat_dimacs.specs.Faults.{IsCnfFault, IsLogFault}
use Rattle.sat_dimacs.specs.Grammar.{IsCnfText, IsLogText}
use Rattle.sat_dimacs.specs.Text.{cnf_text, log_text}

-- A formula is read, or there is no memory.
abbrev pub IsReadAs : Result Cnf DimacsErr → ℕ → List (List ℤ) → Type 0
IsReadAs result vars clauses =
    MatchResult result (λ cnf. (cnf.vars ≡ vars) × (cnf.clauses ≡ clauses)) (λ e. e ≡ Memory)

-- A text is refused for this fault, or there is no memory.
abbrev pub IsRefusedFor : {X : Type 0} → Result X DimacsErr → DimacsFault → Type 0
IsRefusedFor (Ok x) fault = ⊥
IsRefusedFor (Err (Refused found)) fault = found ≡ fault
IsRefusedFor (Err Memory) fault = Unit {0}

-- A text is refused for its first fault.
abbrev pub CnfIsRefused : List ℕ → Result Cnf DimacsErr → Type 0
CnfIsRefused text result = (fault : DimacsFault) → IsCnfFault text fault → IsRefusedFor result fault

abbrev pub LogIsRefused : List ℕ → ℕ → Result (List (List ℤ)) DimacsErr → Type 0
LogIsRefused text vars result = (fault : DimacsFault) → IsLogFault text vars fault → IsRefusedFor result fault

-- What a text stands for is read.
abbrev pub CnfIsRead : List ℕ → Result Cnf DimacsErr → Type 0
CnfIsRead text result =
    (vars : ℕ) (clauses : List (List ℤ)) → IsCnfText text vars clauses → IsReadAs result vars clauses

-- A formula within the bounds of the format: 2^31 - 1 variables and 2^63 - 1 clauses.
pub record IsBounded (vars : ℕ) (clauses : List (List ℤ)) : Type 0 where
  pub vars_few : vars ≤ 2147483647
  pub clauses_few : length clauses < 9223372036854775808
  pub no_zero : All HasNoZero clauses
  pub fit : Fit vars clauses

-- What is written of a formula stands for it,
abbrev pub WrittenCnfStands : Type 0
WrittenCnfStands = (vars : ℕ) (clauses : List (List ℤ)) → IsBounded vars clauses
    → IsCnfText (cnf_text vars clauses) vars clauses

-- and is read as it.
abbrev pub OwnCnfIsRead : List ℕ → Result Cnf DimacsErr → Type 0
OwnCnfIsRead text result = (vars : ℕ) (clauses : List (List ℤ)) → IsBounded vars clauses → text ≡ cnf_text vars clauses
    → IsReadAs result vars clauses

-- The same of logs.
abbrev pub IsReadAsLog : Result (List (List ℤ)) DimacsErr → List (List ℤ) → Type 0
IsReadAsLog result log = MatchResult result (λ found. found ≡ log) (λ e. e ≡ Memory)

abbrev pub LogIsRead : List ℕ → ℕ → Result (List (List ℤ)) DimacsErr → Type 0
LogIsRead text vars result = (log : List (List ℤ)) → IsLogText text vars log → IsReadAsLog result log

abbrev pub OwnLogIsRead : List ℕ → ℕ → Result (List (List ℤ)) DimacsErr → Type 0
OwnLogIsRead text vars result = (log : List (List ℤ)) → All HasNoZero log → Fit vars log → text ≡ log_text log
    → IsReadAsLog result log

-- What is written of a log stands for it.
abbrev pub WrittenLogStands : Type 0
WrittenLogStands = (vars : ℕ) (log : List (List ℤ)) → vars ≤ 2147483647 → All HasNoZero log → Fit vars log
    → IsLogText (log_text log) vars log
